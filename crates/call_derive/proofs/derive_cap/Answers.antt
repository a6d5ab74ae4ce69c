-- `derive_cap` is stopped by 12 or 13; or it makes the child and hands it back.
use Rattle.values.specs.Words.{password_of, window_of}
use Rattle.call_steps.specs.Request.{name_of}
use Rattle.call_derive.proofs.Stops.{Tested, owner-is, object-is, stopped-12, stopped-13, goes_on}
use native.Mathlib.Omega.{arith}
use Rattle.values.specs.declared.refusal.Refusal.TheVariants.{Taken, NoSpace}
use Rattle.call_steps.proofs.Replying.{refuses}
use Rattle.call_derive.proofs.derive_cap.Goals as goal
use Rattle.call_derive.proofs.derive_cap.Goals.{After-p1_taken}

tested : (c : After-p1_taken) → Tested c.args.bytes.now c.args.links.now c.args.words.now c.args.k c.from-o.result (password_of c.args.req.drawn).p1 c.p1_taken.result
tested c = record {
  slot = c.requires.slot;
  object = c.from-o.ensures;
  test = c.p1_taken.ensures c.args.bytes.now;
}

pub p1_taken-requires : goal.p1_taken-requires
p1_taken-requires c =
    let o = owner-is c.args.links.now c.args.k c.requires.slot c.from-o.ensures in record {
      fact_1 = record { links = c.requires.sized.links; words = c.requires.sized.words };
      fact_2 = rw o c.requires.object.low;
    }

pub returns-then-p1_taken : goal.returns-then-p1_taken
returns-then-p1_taken c =
    let a = c.args in
    stopped-12 a.req.rights (window_of a.req.range) (password_of a.req.drawn) a.req.limit a.req.last_day (tested (goal.at.returns-then-p1_taken c).After-p1_taken) c.if-p1_taken.true (refuses Taken)

pub returns-then-links-eq0 : goal.returns-then-links-eq0
returns-then-links-eq0 c =
    let a = c.args in
    stopped-13 a.req.rights (window_of a.req.range) (password_of a.req.drawn) a.req.limit a.req.last_day (tested (goal.at.returns-then-links-eq0 c).After-p1_taken) c.if-p1_taken.false c.if-links-eq0.true
    (refuses NoSpace)

pub name_at-name-requires : goal.name_at-name-requires
name_at-name-requires c =
    let o = object-is (tested (goal.at.name_at-name-requires c).After-p1_taken) in record {
      fact_1 = record { bytes = c.requires.sized.bytes; links = c.requires.sized.links };
      fact_2 = rw o c.requires.object;
      fact_3 = rw o c.requires.live;
    }

pub add_child-requires : goal.add_child-requires
add_child-requires c =
    let nz = c.if-links-eq0.false in
    record {
      links = c.requires.sized.links;
      words = c.requires.sized.words;
      slot = c.requires.slot;
      next-high = rw c.child_of-x.ensures.next c.requires.child-high;
      low = omega (arith, nz);
      high = c.requires.free-high;
    }

pub returns : goal.returns
returns c =
    let a = c.args in
    goes_on a.req.rights (window_of a.req.range) (password_of a.req.drawn) a.req.limit a.req.last_day (tested (goal.at.returns c).After-p1_taken) c.if-p1_taken.false c.if-links-eq0.false
    (name_of c.name_at-name.result) (c.name_at-name.ensures a.words.now) c.hands_back.ensures
    c.child_of-x.result c.child_of-x.ensures c.add_child.ensures
