-- `rename_obj` is stopped by 11 or 12, or renews the master.
use mathlib.Core.Path.{◌≡◌, sym, ◌∙◌}
use native.Mathlib.Omega.{arith}
use Rattle.layout.specs.Layout as Layout
use Rattle.layout.specs.Rows.{owner_of}
use Rattle.call_rename.proofs.Stops.{cell, not-master, p1-taken, renews}
use Rattle.values.specs.declared.refusal.Refusal.TheVariants.{Taken, NotMaster}
use Rattle.call_steps.proofs.Replying.{refuses}
use Rattle.call_rename.proofs.rename_obj.Goals as goal
use Rattle.call_rename.proofs.rename_obj.Goals.{After-from-o}

owner-is : (c : After-from-o) → c.from-o.result ≡ owner_of c.args.links.now c.args.k
owner-is c = c.from-o.ensures ∙ sym (cell c.requires.living Layout.OWNER)

pub returns-then-links-k-ne0 : goal.returns-then-links-k-ne0
returns-then-links-k-ne0 c =
    not-master (λ z. c.if-links-k-ne0.true (sym (cell c.requires.living Layout.PARENT) ∙ z)) (refuses NotMaster)

pub p1_taken-requires : goal.p1_taken-requires
p1_taken-requires c =
    record {
      fact_1 = record { links = c.requires.sized.links; words = c.requires.sized.words };
      fact_2 = omega (arith, owner-is (goal.at.p1_taken-requires c).After-from-o, c.requires.object.low);
    }

pub returns-then-p1_taken : goal.returns-then-p1_taken
returns-then-p1_taken c =
    p1-taken (cell c.requires.living Layout.PARENT ∙ c.if-links-k-ne0.false) (owner-is (goal.at.returns-then-p1_taken c).After-from-o) (c.p1_taken.ensures _)
    c.if-p1_taken.true (refuses Taken)

pub name_at-name-requires : goal.name_at-name-requires
name_at-name-requires c =
    record {
      fact_1 = record { bytes = c.requires.sized.bytes; links = c.requires.sized.links };
      fact_2 = rw (owner-is (goal.at.name_at-name-requires c).After-from-o) c.requires.object;
      fact_3 = rw (owner-is (goal.at.name_at-name-requires c).After-from-o) c.requires.live;
    }

pub returns : goal.returns
returns c =
    renews (cell c.requires.living Layout.PARENT ∙ c.if-links-k-ne0.false) (owner-is (goal.at.returns c).After-from-o) (c.p1_taken.ensures _)
    c.if-p1_taken.false (c.name_at-name.ensures _) c.hands_back.ensures c.renew.ensures
