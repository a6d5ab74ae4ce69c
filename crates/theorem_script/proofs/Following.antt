-- Where one machine follows another, what a script writes on the one it writes on the other.
use Prim.Native.Nat.{ℕ, suc}
use mathlib.Core.List.{List}
use native.Mathlib.Omega.{arith}
use Rattle.script_text.specs.Scan.{Means}
use Rattle.script_text.specs.Scan as Scan
use Rattle.script_driver.specs.Machine.{Machine, Fit, Follows}
use Rattle.script_driver.specs.Turns.{Stage, opening, closed, playing, At, Goes, good, bad, unplayed, later}
use Rattle.script_driver.specs.Turns.{Closes, absent, refused, totals, Lines, over, line, WritesOn}

-- the numbers of a line are 32-bit ones
pub means-fit : {l ns : List ℕ} → Means l ns → Fit ns
means-fit (Scan.good short says) = record { fits = says.fits }
means-fit (Scan.bad none) = record { fits = λ k. omega arith }

-- stages that belong together
pub data Both {S T : Type 0} (R : S → T → Type 0) : Stage S → Stage T → Type 0 where
  both-open : Both R opening opening
  both-closed : Both R closed closed
  both-play : {k : ℕ} {s : S} {t : T} → R s t → Both R (playing k s) (playing k t)

module _ {M N : Machine} {R : M.Store → N.Store → Type 0} (F : Follows M N R) where
  goes-follow : {g g' : At M} {q : At N} {ns out : List ℕ} → Fit ns → Both R g q → Goes M g ns out g'
      → (q' : At N) × Goes N q ns out q' × Both R g' q'
  goes-follow {ns = ns} fit both-open (good {s = s} three begins) =
      let x = F.begins ns s fit begins in (playing 1 x.0, good three x.1, both-play x.2)
  goes-follow fit both-open (bad other) = (closed, bad other, both-closed)
  goes-follow fit both-closed unplayed = (closed, unplayed, both-closed)
  goes-follow {ns = ns} {out = out} fit (both-play {k = k} {s = s} {t = t} r) (later {s' = s'} plays) =
      let x = F.plays k s t ns out s' fit r plays in (playing (suc k) x.0, later x.1, both-play x.2)

  closes-follow : {g : At M} {q : At N} {out : List ℕ} → Both R g q → Closes M g out → Closes N q out
  closes-follow both-open (absent e) = absent e
  closes-follow both-closed (refused e) = refused e
  closes-follow {out = out} (both-play {s = s} {t = t} r) (totals e) = totals (F.totals s t out r e)

  lines-follow : {g : At M} {q : At N} {ls : List (List ℕ)} {text : List ℕ} → Both R g q → Lines M g ls text
      → Lines N q ls text
  lines-follow r (over c) = over (closes-follow r c)
  lines-follow r (line d rest) =
      let x = goes-follow (means-fit d.means) r d.goes in
      line (record { numbers = d.numbers; means = d.means; goes = x.1 }) (lines-follow x.2 rest)

  pub writes-follow : (script : List ℕ) {text : List ℕ} → WritesOn M script text → WritesOn N script text
  writes-follow script w = lines-follow both-open w
