-- The examples: the store is well formed, so the passwords are as many as the capabilities, and these are counted by
-- computation.
use mathlib.Core.Path.{◌≡◌, refl, ap, ◌∙◌, fun_ext}
use mathlib.Core.Bool.{true}
use mathlib.Core.List.{map}
use Rattle.rules.specs.Store.{object_named, caps_live}
use Rattle.rules.specs.Valid.{Valid}
use Rattle.rules.specs.Refusals.{first}
use Rattle.rules.specs.Questions as Questions
use Rattle.rules.specs.Questions.{Counted, count_refuses, counted_by, passwords_asked}
use Rattle.rules.specs.Theorems.{holding, PasswordsCaps}
use Rattle.rules.specs.Script as Script
use Rattle.rules.specs.Edges as Rules
use Rattle.rules.proofs.Theorems.{passwords-caps}
use Rattle.rules.proofs.Played as Played
use Rattle.rules.proofs.Played.{all_fit, valid-after}
use Rattle.question_count.specs.Edges as Edges
use Rattle.question_count.specs.Edges.{Edge, hall, lines, edges, given, expected, Try, tries, tried}

-- ---- the store

-- each line is done: there are nine capabilities more than at first
pub lines-done : caps_live hall ≡ 10
unfolding Script.computes Rules.computes Edges.computes
lines-done = refl

lines_fit : all_fit lines ≡ true
unfolding Played.computes Script.computes Rules.computes Edges.computes
lines_fit = refl

hall-valid : Valid hall
unfolding hall
hall-valid = valid-after lines lines_fit

-- ---- the capabilities are counted in place of the passwords

counted : Edge → Counted
counted e = counted_by (first (count_refuses hall e.caller e.object e.right)) (holding hall e.object e.right)

given_counted : (e : Edge) → given e ≡ counted e
unfolding given counted passwords_asked PasswordsCaps
given_counted e = ap (counted_by (first (count_refuses hall e.caller e.object e.right)))
    (passwords-caps hall (object_named hall e.caller) e.object e.right hall-valid)

counted-so : map counted edges ≡ map expected edges
unfolding counted holding Questions.computes Script.computes Rules.computes Edges.computes
counted-so = refl

pub edges-hold : map given edges ≡ map expected edges
edges-hold = ap (λ (f : Edge → Counted). map f edges) (fun_ext given_counted) ∙ counted-so

pub tries-hold : map tried tries ≡ map (λ (t : Try). t.opening) tries
unfolding Questions.computes Script.computes Rules.computes Edges.computes
tries-hold = refl
