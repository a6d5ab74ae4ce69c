-- What is lent stays lent, call after call.
use mathlib.Core.Path.{refl, ◌∙◌}
use Rattle.script_play.specs.declared.workspace.Workspace.{Workspace}
use Rattle.script_play.specs.Workspace.{Works, StaysLent}

pub lent-same : {w : Workspace} → StaysLent w w
lent-same = record {
  bytes = refl;
  links = refl;
  words = refl;
  numbers = refl;
  text = refl;
  buffer = refl;
  scratch = refl;
  bytes-length = refl;
  links-length = refl;
  words-length = refl;
  numbers-length = refl;
  text-length = refl;
  buffer-length = refl;
  scratch-length = refl;
}

pub lent-on : {u v w : Workspace} → StaysLent u v → StaysLent v w → StaysLent u w
lent-on a b = record {
  bytes = b.bytes ∙ a.bytes;
  links = b.links ∙ a.links;
  words = b.words ∙ a.words;
  numbers = b.numbers ∙ a.numbers;
  text = b.text ∙ a.text;
  buffer = b.buffer ∙ a.buffer;
  scratch = b.scratch ∙ a.scratch;
  bytes-length = b.bytes-length ∙ a.bytes-length;
  links-length = b.links-length ∙ a.links-length;
  words-length = b.words-length ∙ a.words-length;
  numbers-length = b.numbers-length ∙ a.numbers-length;
  text-length = b.text-length ∙ a.text-length;
  buffer-length = b.buffer-length ∙ a.buffer-length;
  scratch-length = b.scratch-length ∙ a.scratch-length;
}

-- so the working room keeps its sizes
pub works-on : {v w : Workspace} → StaysLent v w → Works v → Works w
works-on l a = record {
  numbers = l.numbers-length ∙ a.numbers;
  lent = record {
    text = l.text-length ∙ a.lent.text;
    buffer = l.buffer-length ∙ a.lent.buffer;
    scratch = l.scratch-length ∙ a.lent.scratch;
  };
}
