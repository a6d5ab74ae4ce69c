-- `lendable` compares the rights, the window and the last day, then climbs.
use Prim.Native.Nat.{ℕ}
use mathlib.Core.Path.{◌≡◌, sym, ap, ap₂, ◌∙◌}
use mathlib.Core.Bool.{true, false, not, ◌&&◌, false≢true, and-false}
use native.Mathlib.Omega.{arith}
use lib.Dec.{leb}
use borrow.Author.Tests.{leb-true}
use Rattle.rules.specs.Limit as Limit
use Rattle.rules.specs.Refusals.{ordered}
use Rattle.rules.specs.Calls.{lies_in}
use Rattle.rules.specs.Questions.{Wish, wish_fits}
use Rattle.rules.proofs.Tests.{all3}
use Rattle.layout.specs.View.{view}
use Rattle.values.specs.Words.{window_of}
use Rattle.question_lend.specs.Asks.{wish_of}
use Rattle.question_lend.proofs.Comparing.{no-right, no_room, by-climb}
use Rattle.question_lend.proofs.lendable.Goals as goal
use Rattle.question_lend.proofs.lendable.Goals.{then-right_held, else-right_held, then-holds, else-holds}

-- the rights of a wish are below 8192
pub overflow_cast-x : goal.overflow_cast-x
unfolding wish_fits
overflow_cast-x c =
    let x : Wish = wish_of c.args.x in
    omega (
      arith,
      leb-true x.rights Limit.rights
          (all3 (leb x.rights Limit.rights) (ordered x.window) (leb x.last_day Limit.day) c.requires.fact_3).0,
    )

pub returns-then-lasts : goal.returns-then-lasts
returns-then-lasts c b g =
    let a = c.args in
    elim c.if-holds.branch [
      | then-holds w ↦ elim c.if-right_held.branch [
        | then-right_held v ↦ ap not c.climb_stops.ensures
            ∙ by-climb b a.links.now a.words.now a.k c.requires.fact_2 (wish_of a.x)
            (sym (c.right_held.ensures b a.words.now) ∙ v.if-right_held.true)
            (sym (ap₂ ◌&&◌ (v.holds.ensures ∙ ap (lies_in (window_of a.x.window)) v.window_at.ensures) (w.lasts.ensures b a.words.now))
            ∙ ap₂ ◌&&◌ (sym v.value-is ∙ w.if-holds.true) (sym w.value-is ∙ c.if-lasts.true)) g
        | else-right_held v ↦ absurd (false≢true (sym v.if-right_held.false ∙ sym v.value-is ∙ w.if-holds.true))
      ]
      | else-holds w ↦ absurd (false≢true (sym w.if-holds.false ∙ sym w.value-is ∙ c.if-lasts.true))
    ]

pub returns-else-lasts : goal.returns-else-lasts
returns-else-lasts c b g =
    let a = c.args in
    c.if-lasts.false ∙ elim c.if-holds.branch [
      | then-holds w ↦ elim c.if-right_held.branch [
        | then-right_held v ↦ no_room b a.links.now a.words.now a.k c.requires.fact_2 (wish_of a.x)
            (sym (c.right_held.ensures b a.words.now) ∙ v.if-right_held.true)
            (sym (ap₂ ◌&&◌ (v.holds.ensures ∙ ap (lies_in (window_of a.x.window)) v.window_at.ensures) (w.lasts.ensures b a.words.now))
            ∙ ap₂ ◌&&◌ (sym v.value-is ∙ w.if-holds.true) (sym w.value-is ∙ c.if-lasts.false))
        | else-right_held v ↦ absurd (false≢true (sym v.if-right_held.false ∙ sym v.value-is ∙ w.if-holds.true))
      ]
      | else-holds w ↦ elim c.if-right_held.branch [
        | then-right_held v ↦ no_room b a.links.now a.words.now a.k c.requires.fact_2 (wish_of a.x)
            (sym (c.right_held.ensures b a.words.now) ∙ v.if-right_held.true)
            (ap (λ q. q && leb a.x.last_day ((view b a.links.now a.words.now).cap a.k).last_day)
            (sym (v.holds.ensures ∙ ap (lies_in (window_of a.x.window)) v.window_at.ensures) ∙ sym v.value-is ∙ w.if-holds.false))
        | else-right_held v ↦ no-right b a.links.now a.words.now a.k c.requires.fact_2 (wish_of a.x)
            (sym (c.right_held.ensures b a.words.now) ∙ v.if-right_held.false)
      ]
    ]
