-- `make_obj` is stopped by 12 or 13, or makes the object.
use Rattle.rules.specs.Store.{blocks, object_named}
use Rattle.layout.specs.View.{view}
use Rattle.values.specs.Words.{password_of}
use Rattle.call_steps.specs.Request.{name_of}
use Rattle.call_make.specs.Runs.{no_space}
use Rattle.values.specs.declared.refusal.Refusal.TheVariants.{Taken, NoSpace}
use Rattle.call_steps.proofs.Replying.{refuses}
use Rattle.std.specs.Prelude.{is_some}
use mathlib.Core.Path.{◌≡◌, sym, ap, ◌∙◌}
use Rattle.call_make.proofs.Placing.{place-asks, name-refused, space-refused, made-is, none-named, some-named}
use Rattle.call_make.proofs.make_obj.Goals as goal
use Rattle.call_make.proofs.make_obj.Goals.{After-no_space}

-- the serial is free
free : (c : After-no_space) → (let a = c.args in object_named (view a.bytes.now a.links.now a.words.now) (name_of a.req.name)) ≡ 0
free c = none-named _ (sym (c.is_some.ensures ∙ ap is_some (c.find_object.ensures c.args.words.now)) ∙ c.if-is_some.false)

-- the test of the space
space : (c : After-no_space) → (let a = c.args in no_space a.links.now (blocks a.req.size)) ≡ c.no_space.result
space c = sym (c.no_space.ensures ∙ ap (no_space c.args.links.now) c.blocks_of.ensures)

pub returns-then-is_some : goal.returns-then-is_some
returns-then-is_some c =
    name-refused c.requires (password_of c.args.req.drawn)
    (some-named _ (sym (c.is_some.ensures ∙ ap is_some (c.find_object.ensures c.args.words.now)) ∙ c.if-is_some.true)) (refuses Taken)

pub returns-then-no_space : goal.returns-then-no_space
returns-then-no_space c =
    let at = (goal.at.returns-then-no_space c).After-no_space in
    space-refused c.requires (password_of c.args.req.drawn) (free at) (space at ∙ c.if-no_space.true)
    (refuses NoSpace)

pub place-requires : goal.place-requires
place-requires c =
    place-asks c.requires _ c.from-o.ensures (space (goal.at.place-requires c).After-no_space ∙ c.if-no_space.false)

pub returns : goal.returns
returns c =
    let at = (goal.at.returns c).After-no_space in
    made-is c.requires _ c.from-o.ensures (free at) (space at ∙ c.if-no_space.false) c.place.ensures c.hands_back.ensures
