-- `entry_at` reads a capability, whose numbers are within the list.
use mathlib.Core.Path.{ap}
use borrow.Author.Rules.{rules}
use Rattle.rules.specs.Questions.{entry}
use Rattle.call_steps.specs.declared.request.Capability.{Capability}
use Rattle.call_steps.specs.Numbers.{name_at, capability_at}
use Rattle.call_steps.specs.Request.{capability_of}
use Rattle.question_lend.proofs.Listing.{within}
use Rattle.question_lend.proofs.list.entry_at.Goals as goal

pub capability_at-requires : goal.capability_at-requires
capability_at-requires c = within c.requires

pub returns : goal.returns
unfolding capability_at entry name_at
returns c = ap (λ (x : Capability). capability_of x) c.capability_at.ensures
