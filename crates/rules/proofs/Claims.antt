-- From the invariant to demand 3's claims of a store and its ledger.
use Prim.Native.Nat.{ℕ, ◌+◌}
use mathlib.Core.Path.{◌≡◌, sym, ap, ap₂, ◌∙◌, subst}
use mathlib.Core.Logic.{◌↔◌}
use mathlib.Core.Bool.{true}
use Rattle.rules.specs.Store.{State, root_of, descends}
use Rattle.rules.specs.Valid.{Lives, Caps, Formed}
use Rattle.rules.specs.Ledger.{Ledger, leads_back, summed}
use Rattle.rules.specs.Demand.{Now, Only, Match, Within, Claims}
use Rattle.rules.proofs.Tests.{by-eq, lives, does-live}
use Rattle.rules.proofs.Forest.{descends-in, master-same, master-above, master-top, master-lives, master-in}
use Rattle.rules.proofs.Forest.{master-only}
use Rattle.rules.proofs.Lines.{lines_of}
use Rattle.rules.proofs.Link.{Fits, Linking, same-slot, fits-num, num-some, leads-descends}

module _ (s : State) (l : Ledger) (G : Formed s) (K : Linking s l) where
  abbrev n : Now
  n = record { store = s; ledger = l }

  abbrev C : Caps s.object s.cap
  C = G.caps

  -- ---- a match is a living capability and its line

  match-fits : (i k : ℕ) → Match n i k → Fits s.object (lines_of l) (s.cap i) k
  match-fits i k m = record {
    some = m.living.some;
    low = m.living.low;
    living = m.living.living;
    name = m.name;
    password = m.password;
  }

  pub match-lives : (i k : ℕ) → Match (record { store = s; ledger = l }) i k → Lives s.cap i
  match-lives i k m = lives s i m.lives

  match-num : (i k : ℕ) → Match n i k → k ≡ K.num i
  match-num i k m = fits-num s l G K i k (match-lives i k m) (match-fits i k m)

  pub num-match : (i : ℕ) → Lives s.cap i → Match (record { store = s; ledger = l }) i (K.num i)
  num-match i h =
      let f = K.linked.fits i h in
      record {
        lives = does-live s i h;
        living = record { some = f.some; low = f.low; living = f.living };
        name = f.name;
        password = f.password;
      }

  match-slot : (i j k : ℕ) → Match n i k → Match n j k → i ≡ j
  match-slot i j k a b =
      same-slot s l G i j k (match-lives i k a) (match-lives j k b) (match-fits i k a) (match-fits j k b)

  -- leading back is descent
  pub match-leads : (i j g h : ℕ) → Match (record { store = s; ledger = l }) i g
      → Match (record { store = s; ledger = l }) j h → leads_back l h g ≡ descends s j i
  match-leads i j g h a b =
      ap₂ (leads_back l) (match-num j h b) (match-num i g a)
      ∙ leads-descends s l G K j i (match-lives j h b) (match-lives i g a)

  -- ---- the claims

  within : (i j : ℕ) → Lives s.cap j → descends s j i ≡ true → Within s j i
  within i j h e =
      let w = descends-in s C j i h e in
      record {
        object = w.object;
        tree = sym (master-same s C j i h e);
        rights = w.rights;
        window = w.window;
        last_day = w.last_day;
      }

  -- a line from none is a master's
  from-none : (j : ℕ) → Lives s.cap j → (l.line (K.num j)).from ≡ 0 → (s.cap j).parent ≡ 0
  from-none j h z = by-eq (s.cap j).parent 0 (λ e. e)
      (λ d. absurd (num-some s l G K (s.cap j).parent (C.parent j h d) (sym (K.linked.above j h) ∙ z)))

  none_from : (j : ℕ) → Lives s.cap j → (s.cap j).parent ≡ 0 → (l.line (K.num j)).from ≡ 0
  none_from j h z = K.linked.above j h ∙ ap K.num z ∙ K.linked.none

  tree-match : (i m k r : ℕ) → Match n i k → Match n m r
      → (root_of s i ≡ m) ↔ (((l.line r).from ≡ 0) × (leads_back l k r ≡ true))
  tree-match i m k r a b =
      let h = match-lives i k a in
      let g = match-lives m r b in
      let e = match-num m r b in (
        λ q. (
          ap (λ x. (l.line x).from) e ∙ none_from m g (ap (λ x. (s.cap x).parent) (sym q) ∙ master-top s C i h),
          match-leads m i r k b a ∙ subst (λ x. descends s i x ≡ true) q (master-above s C i h),
        ),
        λ z. sym (master-only s C i m h (sym (match-leads m i r k b a) ∙ z.1)
            (from-none m g (ap (λ x. (l.line x).from) (sym e) ∙ z.0))),
      )

  pub claims : Claims (record { store = s; ledger = l })
  unfolding Only
  claims = record {
    every-cap = λ i t. (K.num i, num-match i (lives s i t), λ y m. match-num i y m);
    every-line = λ k t.
        let r = K.linked.back k t.some t.low t.living in
        let m : Match n (K.slot k) k = subst (Match n (K.slot k)) r.1 (num-match (K.slot k) r.0) in (
          K.slot k,
          m,
          λ y w. match-slot y (K.slot k) k w m,
        );
    holder = λ i j g h a b e. within i j (match-lives j h b) (sym (match-leads i j g h a b) ∙ e);
    rooted = λ i t.
        let h = lives s i t in
        record {
          lives = does-live s (root_of s i) (master-lives s C i h);
          parent = master-top s C i h;
          object = sym (master-in s C i h).object;
        };
    tree = tree-match;
    purse = λ i k m. subst (λ x. (l.line x).first + summed l l.paid_in x ≡ s.money i + summed l l.drawn x)
        (sym (match-num i k m)) (K.purse i (match-lives i k m));
  }
