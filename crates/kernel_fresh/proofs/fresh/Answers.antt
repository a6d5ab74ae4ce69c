-- `fresh` meets its contract.
use mathlib.Core.Path.{refl}
use native.Mathlib.Omega.{arith}
use borrow.Author.Rules.{rules}
use mir.Val.{Fits}
use mir.Syntax.{w32}
use lib.ListN.{get_or}
use Rattle.rules.specs.Demand.{FreshWords}
use Rattle.values.specs.Words.{password_of}
use Rattle.layout.specs.WellFormed.{Sized}
use Rattle.kernel_fresh.proofs.Answers.{refuse, make}
use Rattle.kernel_fresh.proofs.fresh.Goals as goal
use Rattle.kernel_fresh.proofs.fresh.Goals.{Start, then-bytes-ne-BYTES-via-then-bytes-ne-BYTES, then-bytes-ne-BYTES-via-else-bytes-ne-BYTES+then-links-ne-LINKS, then-bytes-ne-BYTES-via-else-bytes-ne-BYTES+else-links-ne-LINKS+then-words-ne-WORDS}

-- the arguments are 32-bit numbers
fit : (c : Start) → FreshWords c.args.supply (password_of c.args.password)
fit c = let h1 : Fits w32 (get_or c.args.password 0 0) = search rules in
    let h2 : Fits w32 (get_or c.args.password 1 0) = search rules in
    record { amount = omega arith; p1 = omega arith; p2 = omega arith }

pub returns-then-bytes-ne-BYTES : goal.returns-then-bytes-ne-BYTES
returns-then-bytes-ne-BYTES c =
    let other : Sized c.args.bytes.now c.args.links.now c.args.words.now → ⊥ = elim c.then-bytes-ne-BYTES.branch [
      | then-bytes-ne-BYTES-via-then-bytes-ne-BYTES w ↦ λ s. omega arith
      | then-bytes-ne-BYTES-via-else-bytes-ne-BYTES+then-links-ne-LINKS w ↦ λ s. omega arith
      | then-bytes-ne-BYTES-via-else-bytes-ne-BYTES+else-links-ne-LINKS+then-words-ne-WORDS w ↦ λ s. omega arith
    ] in
    refuse (fit (goal.at.returns-then-bytes-ne-BYTES c).Start) other

pub returns : goal.returns
returns c =
    make (fit (goal.at.returns c).Start)
    (record { bytes = search rules; links = search rules; words = search rules })
    (record {
      answer = refl;
      bytes = c.fresh_bytes.ensures;
      links = c.fresh_links.ensures;
      words = c.fresh_words.ensures;
    })
