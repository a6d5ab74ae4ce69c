-- A script writes one text, and 01's script writes what 01 says.
use Prim.Native.Nat.{ℕ, zero, suc, ◌≤◌}
use mathlib.Core.Path.{◌≡◌, refl, sym, ap, ◌∙◌}
use mathlib.Core.Bool.{Bool, true, ◌&&◌}
use mathlib.Core.List.{List, [], ◌∷◌}
use native.Mathlib.Omega.{arith}
use lib.Dec.{leb}
use lib.ListN.{length, get_or}
use borrow.Author.Tests.{leb-true}
use Rattle.rules.specs.Script as Script
use Rattle.rules.specs.Script.{example}
use Rattle.rules.proofs.Tests.{all2}
use Rattle.script_text.specs.Numeral as Numeral
use Rattle.script_text.specs.Numeral.{spaced}
use Rattle.script_text.specs.Lines as Lines
use Rattle.script_text.specs.Lines.{lines_of}
use Rattle.script_text.specs.Scan.{Means, good}
use Rattle.script_text.proofs.Sayings.{means-same}
use Rattle.script_answers.specs.Output as Output
use Rattle.script_answers.specs.Output.{output, MeanAll, none, more, Writes}
use Rattle.script_answers.specs.Example as Example
use Rattle.script_answers.specs.Example.{lines_in, example_script, example_text}

-- ---- one text

mean-same : (lines nss mss : List (List ℕ)) → MeanAll lines nss → MeanAll lines mss → nss ≡ mss
mean-same lines nss mss none none = refl
mean-same lines nss mss (more {line = line} {ns = ns} {lines = ls} {nss = nss₀} h hs) (more {ns = ms} {nss = mss₀} g gs) =
    λ i. means-same line ns ms h g i ∷ mean-same ls nss₀ mss₀ hs gs i

pub writes-same : (script t u : List ℕ) → Writes script t → Writes script u → t ≡ u
writes-same script t u a b =
    a.is ∙ ap output (mean-same (lines_of script) a.numbers b.numbers a.means b.means) ∙ sym b.is

-- ---- 01's script

small : List ℕ → Bool
small [] = true
small (n ∷ ns) = leb n 4294967295 && small ns

fit : (ns : List ℕ) → small ns ≡ true → (k : ℕ) → get_or ns k 0 ≤ 4294967295
unfolding small
fit [] e k = omega arith
fit (n ∷ ns) e zero = leb-true n 4294967295 (all2 (leb n 4294967295) (small ns) e).0
fit (n ∷ ns) e (suc k) = fit ns (all2 (leb n 4294967295) (small ns) e).1 k

-- a line that was written out
said : (line ns : List ℕ) → line ≡ spaced ns → leb (length line) 2048 ≡ true → leb 1 (length ns) ≡ true
    → small ns ≡ true → Means line ns
said line ns e short some fits = good (leb-true _ _ short)
    (record { text = e; some = leb-true _ _ some; fits = fit ns fits })

example-output : example_text ≡ output (lines_in example)
unfolding Script.computes Numeral.computes Output.computes Example.computes
example-output = refl

example-means : MeanAll (lines_of example_script) (lines_in example)
unfolding small Script.computes Numeral.computes Lines.computes Example.computes
example-means =
    more (said _ _ refl refl refl refl)
    (more (said _ _ refl refl refl refl)
    (more (said _ _ refl refl refl refl)
    (more (said _ _ refl refl refl refl)
    (more (said _ _ refl refl refl refl)
    (more (said _ _ refl refl refl refl)
    (more (said _ _ refl refl refl refl)
    (more (said _ _ refl refl refl refl)
    none)))))))

pub example-writes : Writes example_script example_text
example-writes = record { numbers = lines_in example; means = example-means; is = example-output }
