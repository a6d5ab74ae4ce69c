-- What the pass over the capabilities knows of the slots that it passed, and what that says at its end.
use Prim.Native.Nat.{ℕ, zero, suc, ◌+◌, ◌-◌, ◌≤◌, ◌<◌}
use mathlib.Core.Path.{◌≡◌, refl, sym}
use Rattle.std.proofs.Common.{Some, None}
use mathlib.Core.List.{List, []}
use lib.ListN.{get_or}
use native.Mathlib.Omega.{arith}
use Rattle.layout.specs.Layout as Layout
use Rattle.layout.specs.Rows.{owner_of}
use Rattle.layout.specs.View.{view}
use Rattle.check_caps.specs.Parts.{CapMeets}
use Rattle.check_passwords.specs.Passwords.{SamePassword, passwords}
use Rattle.check_rows.specs.Buckets.{Buckets}
use Rattle.check_rows.specs.Distinct.{NoneAbove}
use Rattle.check_money.specs.Amount.{master_money}
use Rattle.check_scan.specs.Scanned.{Scanned}
use Rattle.check_rows.proofs.Counting.{Above, above_more, used-past, all-used}
use Rattle.check_passwords.proofs.Distinct.{by-password}
use Rattle.check_rows.proofs.Unique.{none-past, all-differ, none-same}
use Rattle.check_passwords.proofs.Distinct.{passwords-unique, passwords-differ}
use Rattle.check_scan.specs.Slots.{Slots}
use Rattle.check_rows.proofs.Chaining.{slot-passed}
use Rattle.check_scan.proofs.Listing.{all-free, free-above, next-entry}
use Rattle.layout.proofs.Adding.{Added, added_none, added_more}
use Rattle.check_money.proofs.Living.{money-free, masters-added}

-- the slots above i fit, are in the table, differ, and their masters add up to total, whatever the bytes
pub record Passed (l w heads next : List ℕ) (i total : ℕ) : Type 0 where
  pub fit : Above (CapMeets l w) i
  pub table : Buckets (passwords l w) heads next i
  pub differ : Above (NoneAbove (SamePassword l w)) i
  pub money : (b : List ℕ) → Added (master_money (view b l w)) 4294967295 512 i total

module _ (l w : List ℕ) where
  pub passed_none : (heads next : List ℕ) → Buckets (passwords l w) heads next 512 → Passed l w heads next 512 0
  passed_none heads next t = record {
    fit = used-past 512 Layout.OWNER _ _;
    table = t;
    differ = none-past (by-password l w);
    money = λ b. added_none _ _ _;
  }

  pub passed-more : (heads next heads' next' : List ℕ) (i total x more : ℕ) → more ≡ total + x → 1 ≤ i → Passed l w heads next i total
      → CapMeets l w i → Buckets (passwords l w) heads' next' (i - 1) → NoneAbove (SamePassword l w) i
      → ((b : List ℕ) → x ≡ master_money (view b l w) i) → x ≤ 4294967295
      → Passed l w heads' next' (i - 1) more
  passed-more heads next heads' next' i total x more sum low p fits table new is least = record {
    fit = above_more _ _ fits p.fit;
    table = table;
    differ = above_more _ _ new p.differ;
    money = λ b. rw sum (added_more _ _ _ _ _ _ low (is b) least (p.money b));
  }

  -- slots that are free are passed with nothing to do
  pub passed-free : (heads next : List ℕ) (total d i k : ℕ) → i ≡ k + d
      → ((j : ℕ) → k < j → j ≤ i → owner_of l j ≡ 0) → Passed l w heads next i total → Passed l w heads next k total
  passed-free heads next total zero i k e free p = let q : k ≡ i = omega arith in rw q p
  passed-free heads next total (suc d) i k e free p =
      let z = free i (omega arith) (omega arith) in
      passed-free heads next total d (i - 1) k (omega arith) (λ j a b. free j a (omega arith))
      (passed-more heads next heads next i total 0 total (omega arith) (omega arith) p
      (λ live. absurd (live z))
      (slot-passed p.table (λ live. absurd (live z)))
      (λ j a same. same.here z)
      (λ b. sym (money-free b l w i z))
      (omega arith))

  pub passed-all : (heads next : List ℕ) (k total : ℕ) → k ≤ 0 → Passed l w heads next k total → Scanned l w (Some total)
  passed-all heads next k total z p = (
    record {
      fit = all-used 512 Layout.OWNER _ _ _ z p.fit;
      passwords = passwords-unique l w (all-differ (by-password l w) k z p.differ);
    },
    λ b. masters-added b l w k total z (p.money b),
  )

  -- a slot does not fit
  pub misfit : (i : ℕ) → (CapMeets l w i → ⊥) → Scanned l w None
  misfit i n h = n (h.fit i)

  -- a slot has the p1 of another
  pub doubled : (i : ℕ) → (NoneAbove (SamePassword l w) i → ⊥) → Scanned l w None
  doubled i n h = n (none-same (passwords-differ l w h.passwords) i)

-- the slots above `place` are passed, and those that live up to it are listed from k on
pub record Reached (l w heads next list : List ℕ) (k n total : ℕ) : Type 0 where
  pub place : ℕ
  pub passed : Passed l w heads next place total
  pub rest : Slots l list k n 0 place

module _ (l w heads next list : List ℕ) (k n total : ℕ) (r : Reached l w heads next list k n total) where
  -- all above the next entry is passed
  pub at_next : k < n → Passed l w heads next (get_or list k 0) total
  at_next more = passed-free l w heads next total (r.place - get_or list k 0) r.place (get_or list k 0)
      (omega (arith, r.rest.high k (omega arith) more))
      (free-above l list k n r.place r.rest more)
      r.passed

  -- the next entry is the slot of a capability
  pub entry-slot : k < n → (1 ≤ get_or list k 0) × (get_or list k 0 ≤ 512)
  entry-slot more = (
    r.rest.low k (omega arith) more,
    omega (arith, r.rest.high k (omega arith) more, (r.passed.money []).high),
  )

  pub at-end : n ≤ k → Passed l w heads next 0 total
  at-end z = passed-free l w heads next total r.place r.place 0 (omega arith)
      (all-free l list k n r.place r.rest z) r.passed

  -- the next entry is passed too
  pub reach-on : k < n → (heads' next' : List ℕ) (x : ℕ) → CapMeets l w (get_or list k 0)
      → Buckets (passwords l w) heads' next' (get_or list k 0 - 1) → NoneAbove (SamePassword l w) (get_or list k 0)
      → ((b : List ℕ) → x ≡ master_money (view b l w) (get_or list k 0)) → x ≤ 4294967295
      → Reached l w heads' next' list (k + 1) n (total + x)
  reach-on more heads' next' x fits table new is least = record {
    place = get_or list k 0 - 1;
    passed = passed-more l w heads next heads' next' (get_or list k 0) total x (total + x) refl
        (r.rest.low k (omega arith) more) (at_next more) fits table new is least;
    rest = next-entry l list k n r.place r.rest more;
  }
