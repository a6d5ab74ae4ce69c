-- `new_cap` takes the first free record and writes it.
use mathlib.Core.Path.{ap, ◌∙◌}
use Rattle.call_grow.specs.Made.{cap_of, new_links, new_words}
use Rattle.call_grow.proofs.cap.new_cap.Goals as goal

pub returns : goal.returns
returns c =
    let a = c.args in
    record {
      slot = c.from-i.ensures;
      links = c.write_links.ensures ∙ ap (λ i. new_links a.links.now i (cap_of a.x) a.x.next) c.from-i.ensures;
      words = c.write_words.ensures ∙ ap (λ i. new_words a.words.now i (cap_of a.x) a.moneyword.0) c.from-i.ensures;
    }
