-- Each call's run is what the rules give of its own part: 01, "read, write" of "What each call refuses, in order".
use Prim.Native.Nat.{ℕ, ◌+◌, ◌-◌, ◌≤◌}
use mathlib.Core.Path.{◌≡◌, refl, sym, ap}
use mathlib.Core.Logic.{◌≢◌}
use mathlib.Core.List.{List}
use native.Mathlib.Omega.{arith}
use lib.ListN.{length}
use Rattle.rules.specs.Store.{State}
use Rattle.rules.specs.Rights.{read, write, op}
use Rattle.rules.specs.Call.{Call, done, hands_over}
use Rattle.rules.specs.Refusals.{first}
use Rattle.rules.specs.Calls.{lies_in, transfer_refuses, refuses, does, read_does, write_does}
use Rattle.rules.proofs.Tests.{by_bool}
use Rattle.rules.proofs.Parts.{written_is}
use Rattle.layout.specs.Rows.{master_of, size_of, first_block_of, owner_of}
use Rattle.layout.specs.View.{view}
use Rattle.layout.specs.WellFormed.{Plain}
use Rattle.layout.proofs.Shown.{cap-object, cap-here, bytes-here}
use Rattle.call_steps.specs.Run.{Held, MeetsPlain, over, handed_over, window_in}
use Rattle.call_steps.proofs.Meeting.{takes, DoesPlain, plain-settled}
use Rattle.call_transfer.specs.Runs.{range, inside, bytes_in, copied_in, read_run, write_run}
use Rattle.call_transfer.proofs.Stops.{inside-no, ends-in}
use Rattle.call_transfer.proofs.Requires.{target-of}
use Rattle.call_transfer.proofs.Stored.{after-length, write-stored, write-cells}

module _ {b l w : List ℕ} (f : Plain b l w) (c : Call) (me k : ℕ) (h : Held l k) where
  abbrev s : State
  s = view b l w

  alive : master_of l (owner_of l k) ≢ 0
  alive = (target-of f h).owned.live

  -- refusal 7 is met in the cells where it is met in the view
  stop_is : inside w k c.range.start c.range.end ≡ first (transfer_refuses s c me k)
  unfolding inside transfer_refuses
  stop_is = rw (cap-here b l w k h.live)

  pub read_meets : op c.number ≡ read → MeetsPlain l s c me k read (read_run b l w k c.range.start c.range.end)
  unfolding takes refuses does read_does read_run handed_over hands_over bytes_in
  read_meets e = plain-settled b l w c me k read (rw e refl) f (inside w k c.range.start c.range.end) _ stop_is
      (λ z. record {
        rules = rw (cap-object b l w k, bytes-here b l w _ alive);
        sized = f.sized;
        cells = f.cells;
        links = refl;
      })

  -- where it is not, the range ends within the object
  ends-within : inside w k c.range.start c.range.end ≡ 0 → c.range.end ≤ size_of l (owner_of l k)
  ends-within z = by_bool (lies_in (range c.range.start c.range.end) (window_in w k))
      (λ e. omega (arith, ends-in w k c.range.start c.range.end e, (target-of f h).fits))
      (λ e. absurd (omega (arith, inside-no w k c.range.start c.range.end e)))

  module _ (ordered : c.range.start ≤ c.range.end)
      (long : length c.text ≡ c.range.end - c.range.start) where
    abbrev after : List ℕ
    after = copied_in l (first_block_of l (owner_of l k)) c.range.start c.text (length c.text) b

    write-does : c.range.end ≤ size_of l (owner_of l k) → DoesPlain l s c me k write (over 0 after l w)
    unfolding does write_does over done
    write-does fits =
        let o : ℕ = owner_of l k in
        let room : c.range.start + length c.text ≤ size_of l o = omega arith in
        let B = f.blocks in
        record {
          rules = rw (cap-object b l w k, ← written_is s c me k (omega (arith, ordered, long)) (s.bytes o))
              (ap done (sym (write-stored b l f.sized.bytes B o alive c.range.start c.text room w)));
          sized = record {
            bytes = after-length b l f.sized.bytes B o alive c.range.start c.text room;
            links = f.sized.links;
            words = f.sized.words;
          };
          cells = write-cells b l f.sized.bytes B o alive c.range.start c.text room f.cells;
          links = refl;
        }

    pub write_meets : op c.number ≡ write
        → MeetsPlain l s c me k write (write_run b l w k c.range.start c.range.end c.text)
    unfolding takes refuses write_run
    write_meets e = plain-settled b l w c me k write (rw e refl) f (inside w k c.range.start c.range.end) _
        stop_is (λ z. write-does (ends-within z))
