-- What a call finds: the caller by its name, the capability presented, and that capability's line in the ledger.
use Prim.Native.Nat.{ℕ, ◌≤◌}
use mathlib.Core.Path.{◌≡◌, sym, ap, ◌∙◌}
use mathlib.Core.Logic.{◌≢◌}
use mathlib.Core.Bool.{Bool, true, ◌&&◌}
use native.Mathlib.Omega.{arith}
use Rattle.rules.specs.Slots.{find}
use Rattle.rules.specs.Store.{Name, same_name, Password, same_password, Object, State, cap_lives, object_named}
use Rattle.rules.specs.Valid.{Objects, Lives, Formed}
use Rattle.rules.specs.Call.{Capability}
use Rattle.rules.specs.Password.{unlock, presented}
use Rattle.rules.specs.Ledger.{Ledger, found}
use Rattle.rules.proofs.Tests.{by-eq, both_true, all2, all3, same-name, name-same, same-password, password-same}
use Rattle.rules.proofs.Tests.{lives, does-live}
use Rattle.rules.proofs.Slots.{find-finds, find-some}
use Rattle.rules.proofs.Lines.{lines_of}
use Rattle.rules.proofs.Link.{Fits, Linking, fits-num}

-- a living process
pub record Process (object : ℕ → Object) (o : ℕ) : Type 0 where
  pub live : (object o).live ≡ true
  pub process : (object o).process ≡ true

pub named : (s : State) (n : Name) → object_named s n ≢ 0 → (s.object (object_named s n)).name ≡ n
unfolding object_named
named s n h =
    let t : ℕ → Bool = λ o. (s.object o).live && same_name (s.object o).name n in
    let o : ℕ = find 64 t in
    same-name (s.object o).name n
    (all2 (s.object o).live (same_name (s.object o).name n) (find-finds 64 t h).0).1

-- the object found lives
pub found-live : (s : State) (n : Name) → object_named s n ≢ 0 → (s.object (object_named s n)).live ≡ true
unfolding object_named
found-live s n h =
    let t : ℕ → Bool = λ o. (s.object o).live && same_name (s.object o).name n in
    (all2 (s.object (find 64 t)).live (same_name (s.object (find 64 t)).name n) (find-finds 64 t h).0).0

-- where no object of the name is found there is none
pub not_named : (s : State) (n : Name) → Objects s.object → object_named s n ≡ 0
    → (o : ℕ) → (s.object o).live ≡ true → (s.object o).name ≢ n
unfolding object_named
not_named s n O z o e q =
    let w = O.live o e in
    find-some 64 (λ o. (s.object o).live && same_name (s.object o).name n) o w.some w.low
    (both_true (s.object o).live (same_name (s.object o).name n) e (name-same (s.object o).name n q)) z

-- the object of a name is the one that has it
pub named-is : (s : State) (n : Name) → Objects s.object → (o : ℕ) → (s.object o).live ≡ true → (s.object o).name ≡ n
    → object_named s n ≡ o
named-is s n O o l e = by-eq (object_named s n) 0
    (λ z. absurd (not_named s n O z o l e))
    (λ nz. O.names (object_named s n) o (found-live s n nz) l (named s n nz ∙ sym e))

-- ---- the capability presented

pub record Shown (s : State) (me : ℕ) (x : Capability) (k : ℕ) : Type 0 where
  pub lives : Lives s.cap k
  pub name : (s.object (s.cap k).object).name ≡ x.name
  pub password : (s.cap k).password ≡ unlock x.password (s.lock me)

module _ (s : State) (me : ℕ) (x : Capability) where
  -- the test by which `presented` finds a slot
  abbrev fits : ℕ → Bool
  fits i =
      cap_lives s i
      && same_name (s.object (s.cap i).object).name x.name
      && same_password (s.cap i).password (unlock x.password (s.lock me))

  pub shown : presented s me x ≢ 0 → Shown s me x (presented s me x)
  unfolding presented
  shown h =
      let k : ℕ = find 512 fits in
      let f = all3 (cap_lives s k) (same_name (s.object (s.cap k).object).name x.name)
      (same_password (s.cap k).password (unlock x.password (s.lock me))) (find-finds 512 fits h).0 in
      record {
        lives = lives s k f.0;
        name = same-name _ x.name f.1;
        password = same-password (s.cap k).password _ f.2;
      }

  -- where one is shown, one is found
  pub presents : (k : ℕ) → 1 ≤ k → k ≤ 512 → Shown s me x k → presented s me x ≢ 0
  unfolding presented
  presents k low high S =
      let n : Name = (s.object (s.cap k).object).name in
      let p : Password = unlock x.password (s.lock me) in
      find-some 512 fits k low high
      (both_true (cap_lives s k && same_name n x.name) (same_password (s.cap k).password p)
      (both_true (cap_lives s k) (same_name n x.name) (does-live s k S.lives) (name-same n x.name S.name))
      (password-same (s.cap k).password p S.password))

-- ---- the line found is the line of the capability presented

module _ (s : State) (l : Ledger) (G : Formed s) (K : Linking s l)
    (who : Name) (me : ℕ) (live : (s.object me).live ≡ true) (name : (s.object me).name ≡ who)
    (x : Capability) (k : ℕ) (S : Shown s me x k) where
  abbrev p : Password
  p = unlock x.password (l.lock who)

  -- the ledger has the caller's lockword, and so looks for the same password
  same-lock : (s.cap k).password ≡ unlock x.password (l.lock who)
  same-lock =
      S.password ∙ ap (unlock x.password) (sym (K.locked me live) ∙ ap l.lock name)

  abbrev t : ℕ → Bool
  t j = l.living j && same_name (l.line j).name x.name && same_password (l.line j).password p

  passes : (j : ℕ) → Fits s.object (lines_of l) (s.cap k) j → t j ≡ true
  passes j f =
      both_true (l.living j && same_name (l.line j).name x.name) (same_password (l.line j).password p)
      (both_true (l.living j) (same_name (l.line j).name x.name) f.living
      (name-same (l.line j).name x.name (sym f.name ∙ S.name)))
      (password-same (l.line j).password p (sym f.password ∙ same-lock))

  passed : (j : ℕ) → 1 ≤ j → j ≤ l.count → t j ≡ true → Fits s.object (lines_of l) (s.cap k) j
  passed j a b e =
      let f = all3 (l.living j) (same_name (l.line j).name x.name) (same_password (l.line j).password p) e in
      record {
        some = a;
        low = b;
        living = f.0;
        name = S.name ∙ sym (same-name (l.line j).name x.name f.1);
        password = same-lock ∙ sym (same-password (l.line j).password p f.2);
      }

  pub found-num : found l who x ≡ K.num k
  unfolding found
  found-num =
      let f = K.linked.fits k S.lives in
      let nz = find-some l.count t (K.num k) f.some f.low (passes (K.num k) f) in
      let g = find-finds l.count t nz in
      let j : ℕ = find l.count t in
      fits-num s l G K k j S.lives (passed j (omega (arith, nz)) g.1 g.0)
