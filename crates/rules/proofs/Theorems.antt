-- The theorems about the rules: what specs/Theorems.antt states, and demand 3.
use mathlib.Core.Path.{subst, ◌∙◌}
use mathlib.Core.List.{◌∷◌}
use Rattle.rules.specs.Demand.{Now, start, run, Legal, Demand3}
use Rattle.rules.specs.Theorems.{FreshValid, ValidKept, MoneyKept, RefusedLeaves, AnswerFixed, ChoiceExists}
use Rattle.rules.specs.Theorems.{LastFree, RunExists, MailWakes, ReadRefuses, ReadInside, PasswordsCaps, AbsentNone}
use Rattle.rules.specs.Theorems.{LendDecided, LendFixed, LentDerives, DerivedLends}
use Rattle.rules.proofs.Answers.{refused-rule, answer-same}
use Rattle.rules.proofs.Steps.{keep-step}
use Rattle.rules.proofs.Fresh.{valid-fresh}
use Rattle.rules.proofs.Claims.{claims}
use Rattle.rules.proofs.Choices.{choose, last-open}
use Rattle.rules.proofs.Awake.{run-awake, awake-fresh}
use Rattle.rules.proofs.Asking.{read-refused, read-inside}
use Rattle.rules.proofs.Counting.{opening-holding, none-held}
use Rattle.rules.proofs.Lending.{lends-lendable, lendable-lends, lend_same, lent-by-derive, lends-by-derive}
use Rattle.rules.proofs.Runs.{valid-step, good_start, good-run, legal-front, ended-next, run_of}

pub fresh-valid : FreshValid
unfolding FreshValid
fresh-valid = valid-fresh

pub valid-kept : ValidKept
unfolding ValidKept
valid-kept = valid-step

pub money-kept : MoneyKept
unfolding MoneyKept
money-kept s c h v A = (keep-step s v.formed c h A).total

pub refused-leaves : RefusedLeaves
unfolding RefusedLeaves
refused-leaves = refused-rule

pub answer-fixed : AnswerFixed
unfolding AnswerFixed
answer-fixed = answer-same

pub choice-exists : ChoiceExists
unfolding ChoiceExists
choice-exists s c h v = choose s c h v.formed

pub last-free : LastFree
unfolding LastFree
last-free s c v = last-open s c v.formed

pub run-exists : RunExists
unfolding RunExists start
run-exists supply p W calls = run_of (start supply p) calls (valid-fresh supply p W)

pub mail-wakes : MailWakes
unfolding MailWakes start
mail-wakes supply p l = run-awake (start supply p) l (awake-fresh supply p)

pub read-refuses : ReadRefuses
unfolding ReadRefuses
read-refuses s c h r fit pays = read-refused s c r fit pays h

pub read-in-window : ReadInside
unfolding ReadInside
read-in-window s c h r told inside = read-inside s c r told inside h

pub passwords-caps : PasswordsCaps
unfolding PasswordsCaps
passwords-caps s me n right v = opening-holding s me n right v.formed

pub absent_none : AbsentNone
unfolding AbsentNone
absent_none s me n right v z = opening-holding s me n right v.formed ∙ none-held s me n right v.formed z

pub lend-decided : LendDecided
unfolding LendDecided
lend-decided s who x e v a b f =
    (λ g. (g.shows, lends-lendable s v who x e g), λ g. lendable-lends s v who x e a b f g.0 g.1)

pub lend-fixed : LendFixed
unfolding LendFixed
lend-fixed = lend_same

pub lent-derives : LentDerives
unfolding LentDerives
lent-derives s c h x v g is = lent-by-derive s c x is h v g

pub derived-lends : DerivedLends
unfolding DerivedLends
derived-lends s c h x is = lends-by-derive s c x is h

-- the claims follow from the invariant at the end of the list, what a done delete ended from the invariant before it
pub demand-3 : Demand3
unfolding Demand3
demand-3 supply p W l legal =
    let n : Now = start supply p in
    let g = good_start supply p W in
    let r = good-run n l g legal in
    record {
      claims = claims (run n l).store (run n l).ledger r.valid.formed r.link;
      deletes = λ before after x e d f.
          let front = legal-front n before (x ∷ after) (subst (Legal n) e legal) in
          ended-next (run n before) x (good-run n before g front) d f;
    }
