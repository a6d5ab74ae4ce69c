-- What a script does after a good line one is a run of `call`: from the exact run of a line's call, the request, the reply and the
-- slices that `call` has for it.
use Prim.Native.Nat.{ℕ, suc}
use mathlib.Core.Path.{◌≡◌, refl, sym, ap, ◌∙◌, subst}
use mathlib.Core.Bool.{true, false}
use mathlib.Core.List.{List, [], ◌∷◌, ◌++◌}
use native.Mathlib.Omega.{arith}
use lib.ListN.{length, take, replicate, length-replicate}
use lib.Seq.{take-append-le, take_all}
use Rattle.rules.specs.Code as Code
use Rattle.rules.specs.Store.{fresh}
use Rattle.rules.specs.Rights.{op}
use Rattle.rules.specs.Call.{Call, Answer, Outcome, code}
use Rattle.rules.specs.Demand.{Words}
use Rattle.rules.specs.Script.{nth, line_fits, call_of, answer_of}
use Rattle.rules.proofs.Tests.{by_bool}
use Rattle.layout.specs.WellFormed.{Sized}
use Rattle.call_steps.specs.declared.request.Request.{Request}
use Rattle.call_steps.specs.Request as Request
use Rattle.call_steps.specs.Request.{Reply, count_of}
use Rattle.call_steps.specs.Run.{Ran, overlay}
use Rattle.kernel_fresh.specs.Fresh.{Fresh}
use Rattle.kernel_step.specs.Slices.{Slices}
use Rattle.kernel_step.specs.Run.{step_run}
use Rattle.kernel_step.specs.Ends.{scratch_after_call, Ends}
use Rattle.kernel_step.proofs.Promising.{stepped}
use Rattle.kernel_call.proofs.Calling.{calls-step}
use Rattle.theorem_history.specs.History as History
use Rattle.theorem_history.specs.History.{lent, plain, Event, call_at, Happens, Runs}
use Rattle.theorem_history.proofs.Following.{history}
use Rattle.script_text.specs.Numeral.{line_of}
use Rattle.script_text.specs.Scan.{Means}
use Rattle.script_text.proofs.Sayings.{means-same}
use Rattle.script_answers.specs.Ends.{totals_line}
use Rattle.script_answers.specs.Output.{MeanAll, none, more}
use Rattle.script_play.specs.Plays.{Said}
use Rattle.script_play.specs.Starts.{password_in, Begun}
use Rattle.script_play.proofs.Playing.{line-good, line-bad}
use Rattle.script_driver.specs.Machine.{Fit}
use Rattle.script_driver.specs.Turns.{opening, closed, playing, At, Goes, good, bad, unplayed, later}
use Rattle.script_driver.specs.Turns.{Closes, absent, refused, totals, Lines, line}
use Rattle.script_driver.specs.Turns as Turns
use Rattle.script_driver.specs.Stores.{Store, Formed, state_of, Played, stores}
use Rattle.theorem_script.proofs.Following.{means-fit}
use Rattle.theorem_script.proofs.Replying.{rule-said}
use Rattle.theorem_script.specs.Events as Events
use Rattle.theorem_script.specs.Events.{answer_in, MakesCalls, over, call}

abbrev as_store : Store → History.Store
as_store s = record { bytes = s.bytes; links = s.links; words = s.words }

-- ---- a call as a request

request_of : Call → Request
request_of c = record {
  number = c.number;
  caller = record { volume = c.caller.volume; serial = c.caller.serial };
  presented = record {
    name = record { volume = c.presented.name.volume; serial = c.presented.name.serial };
    password = c.presented.password.p1 ∷ c.presented.password.p2 ∷ [];
  };
  name = record { volume = c.name.volume; serial = c.name.serial };
  size = c.size;
  flag = c.flag;
  rights = c.rights;
  drawn = c.drawn.p1 ∷ c.drawn.p2 ∷ [];
  range = record { start = c.range.start; end = c.range.end };
  sum = c.sum;
  lock = c.lock.first ∷ c.lock.second ∷ [];
  limit = c.limit;
  last_day = c.last_day;
  day = c.day;
}

same-call : (c : Call) (buffer scratch : ℕ) → buffer ≡ c.buffer → scratch ≡ c.scratch
    → Request.call_of (request_of c) c.text buffer scratch ≡ c
unfolding request_of Request.call_of
same-call c buffer scratch b s = ap (λ (n : ℕ). Request.call_of (request_of c) c.text n scratch) b
    ∙ ap (λ (n : ℕ). Request.call_of (request_of c) c.text c.buffer n) s

-- the bytes at the buffer's front
front-is : (bytes buffer : List ℕ) → take (length bytes) (overlay bytes buffer) ≡ bytes
unfolding overlay
front-is bytes buffer =
    take-append-le (length bytes) bytes _ (omega arith) ∙ take_all (length bytes) bytes (omega arith)

-- read back from there, a reply that says an answer says it still
front-says : (a : Answer) (d : Said a) (buffer : List ℕ)
    → Request.answer_of d.reply (take (count_of d.reply) (overlay a.bytes buffer)) ≡ a
front-says a d buffer = ap (λ (n : ℕ). Request.answer_of d.reply (take n (overlay a.bytes buffer))) d.count
    ∙ ap (Request.answer_of d.reply) (front-is a.bytes buffer) ∙ d.is

-- ---- the event of a line that fits its call

module _ {k : ℕ} {s s' : Store} {ns out : List ℕ} (W : Formed s) (p : Played k s ns out s')
    (fits : line_fits (op (nth ns 0)) ns ≡ true) where
  abbrev c : Call
  c = call_of (op (nth ns 0)) ns

  abbrev a : Answer
  a = p.answer

  -- the answer is the rules', and so some reply's
  said : Said a
  said = subst Said (ap (λ (o : Outcome). o.answer) (sym (line-good p.choice (state_of s) ns fits) ∙ p.rules))
      (rule-said (state_of s) c p.choice)

  -- the buffer and the scratch are lent full of zeros
  buffer : List ℕ
  buffer = replicate c.buffer 0

  scratch : List ℕ
  scratch = replicate c.scratch 0

  event : Event
  event = record {
    way = plain;
    request = request_of c;
    text = c.text;
    buffer = buffer;
    scratch = scratch;
    reply = said.reply;
    store = as_store s';
    buffer-after = overlay a.bytes buffer;
    scratch_after = scratch_after_call (op c.number) a.code scratch;
  }

  event-call : call_at event ≡ c
  unfolding event buffer scratch
  event-call = same-call c _ _ (length-replicate c.buffer 0) (length-replicate c.scratch 0)

  event-answer : answer_in event ≡ a
  unfolding event
  event-answer = front-says a said buffer

  abbrev was : Slices
  was = lent (as_store s) buffer scratch

  abbrev is : Slices
  is = lent (as_store s') event.buffer-after event.scratch_after

  abbrev done : Ran
  done = record { answer = a; bytes = s'.bytes; links = s'.links; words = s'.words }

  ends : Ends c done said.reply was is
  unfolding event
  ends = record {
    replies = record { answer = event-answer; count = said.count; buffer-is = refl };
    store = record { bytes = refl; links = refl; words = refl };
    scratch = refl;
  }

  event-happens : Happens (as_store s) event
  unfolding event
  event-happens =
      let run : Ends c (step_run s.bytes s.links s.words c) said.reply was is =
      subst (λ (x : Ran). Ends c x said.reply was is) (sym (p.exact fits)) ends in
      calls-step W (stepped W
      (subst Words (sym event-call) (p.allowed fits).words)
      (subst (λ (x : Call). Ends x (step_run s.bytes s.links s.words x) said.reply was is) (sym event-call) run))

-- ---- a list of lines

record Called (k : ℕ) (s : History.Store) (nss : List (List ℕ)) (text : List ℕ) : Type 0 where
  events : List Event
  runs : Runs s events
  makes : MakesCalls k s nss events text

From : At stores → List (List ℕ) → List ℕ → Type 0
From opening ls text = Unit {0}
From closed ls text = Unit {0}
From (playing k s) ls text = Formed s → (nss : List (List ℕ)) → MeanAll ls nss → Called k (as_store s) nss text

called-good : {k : ℕ} {s s' : Store} {ns out text : List ℕ} {nss : List (List ℕ)} → Formed s → Played k s ns out s'
    → line_fits (op (nth ns 0)) ns ≡ true → Called (suc k) (as_store s') nss text → Called k (as_store s) (ns ∷ nss) (out ++ text)
unfolding Runs event
called-good {k} {s} {s'} {ns} {out} {text} {nss} W p fits r =
    let e : Event = event W p fits in record {
      events = e ∷ r.events;
      runs = (event-happens W p fits, r.runs);
      makes = subst (λ (x : List ℕ). MakesCalls k (as_store s) (ns ∷ nss) (e ∷ r.events) (x ++ text))
          (ap (λ (x : Answer). line_of (k ∷ answer_of (op (nth ns 0)) x)) (event-answer W p fits) ∙ sym p.text)
          (call fits refl (event-call W p fits) r.makes);
    }

refused-text : {k : ℕ} {s s' : Store} {ns out : List ℕ} → Played k s ns out s' → line_fits (op (nth ns 0)) ns ≡ false
    → line_of (k ∷ Code.out_of_range ∷ []) ≡ out
unfolding answer_of code
refused-text {k} {s} {ns = ns} p e = ap (λ (x : Answer). line_of (k ∷ answer_of (op (nth ns 0)) x))
    (ap (λ (x : Outcome). x.answer) (sym (line-bad p.choice (state_of s) ns e) ∙ p.rules)) ∙ sym p.text

called-bad : {k : ℕ} {s s' : Store} {ns out text : List ℕ} {nss : List (List ℕ)} → Played k s ns out s'
    → line_fits (op (nth ns 0)) ns ≡ false → Called (suc k) (as_store s') nss text → Called k (as_store s) (ns ∷ nss) (out ++ text)
called-bad {k} {s} {s'} {ns} {out} {text} {nss} p e r =
    let u = p.bad e in
    let same : as_store s' ≡ as_store s = λ i. record { bytes = u.bytes i; links = u.links i; words = u.words i } in record {
      events = r.events;
      runs = subst (λ (x : History.Store). Runs x r.events) same r.runs;
      makes = subst (λ (x : List ℕ). MakesCalls k (as_store s) (ns ∷ nss) r.events (x ++ text)) (refused-text p e)
          (Events.bad e (subst (λ (x : History.Store). MakesCalls (suc k) x nss r.events text) same r.makes));
    }

later-called : (text : List ℕ) (ls : List (List ℕ)) {k : ℕ} {s s' : Store} {l ns out : List ℕ} → Means l ns → Played k s ns out s'
    → From (playing (suc k) s') ls text → From (playing k s) (l ∷ ls) (out ++ text)
unfolding From
later-called text ls {k} {s} {s'} {l} {ns} {out} m p on W nss (more {ns = ms} {nss = mss} g gs) =
    subst (λ (x : List ℕ). Called k (as_store s) (x ∷ mss) (out ++ text)) (means-same l ns ms m g)
    (let r = on p.formed mss gs in
    by_bool (line_fits (op (nth ns 0)) ns) (λ e. called-good W p e r) (λ e. called-bad p e r))

goes-called : (text : List ℕ) (ls : List (List ℕ)) {g m : At stores} {l ns out : List ℕ} → Means l ns → Goes stores g ns out m
    → From m ls text → From g (l ∷ ls) (out ++ text)
unfolding From
goes-called text ls m (good e b) on = tt
goes-called text ls m (bad e) on = tt
goes-called text ls m unplayed on = tt
goes-called text ls m (later p) on = later-called text ls m p on

none-called : {k : ℕ} {s : Store} (nss : List (List ℕ)) → MeanAll [] nss → Called k (as_store s) nss (totals_line (state_of s))
unfolding Runs
none-called nss none = record { events = []; runs = tt; makes = over }

over-called : {g : At stores} {text : List ℕ} → Closes stores g text → From g [] text
unfolding From
over-called (absent e) = tt
over-called (refused e) = tt
over-called (totals {k = k} {s = s} e) = λ W nss h.
    subst (λ (x : List ℕ). Called k (as_store s) nss x) (sym e) (none-called nss h)

lines_called : {g : At stores} {ls : List (List ℕ)} {text : List ℕ} → Lines stores g ls text → From g ls text
lines_called (Turns.over c) = over-called c
lines_called (line {text = text} {ls = ls} d rest) = goes-called text ls d.means d.goes (lines_called rest)

-- ---- after a good line one

begun_fresh : {ns : List ℕ} {s : Store} → Begun ns s.bytes s.links s.words → (old : History.Store)
    → Sized old.bytes old.links old.words
    → Fresh (nth ns 0) (password_in ns) old.bytes old.links old.words s.bytes s.links s.words 0
begun_fresh {ns} {s} b old z =
    let x = b.bytes in
    let y = b.links in
    let w = b.words in record {
      refused = λ n. absurd (n z);
      made = λ _. record { answer = refl; bytes = x; links = y; words = w };
      means = subst (λ (t : Store). state_of t ≡ fresh (nth ns 0) (password_in ns)) (λ i. record { bytes = x i; links = y i; words = w i }) b.means;
      formed = subst Formed (λ i. record { bytes = x i; links = y i; words = w i }) b.formed;
    }

opened : (text : List ℕ) (ls : List (List ℕ)) {m : At stores} {ns out : List ℕ} → Fit ns → length ns ≡ 3
    → Goes stores opening ns out m → From m ls text → (nss : List (List ℕ)) → MeanAll ls nss → Events.RanCalls ns nss (out ++ text)
unfolding From History.Demand3
opened text ls {ns = ns} f three (good {s = s} e b) on nss h =
    let r = on b.formed nss h in
    let made = begun_fresh b in record {
      store = as_store s;
      fresh = made;
      events = r.events;
      runs = r.runs;
      makes = r.makes;
      holds = history (nth ns 0) (password_in ns) (record { amount = f.fits 0; p1 = f.fits 1; p2 = f.fits 2 })
          (as_store s) (as_store s) (made (as_store s) b.formed.sized) r.events r.runs;
    }
opened text ls f three (bad n) on nss h = absurd (n three)

pub script-runs : (ls : List (List ℕ)) (text ns : List ℕ) (nss : List (List ℕ)) → Lines stores opening ls text → MeanAll ls (ns ∷ nss)
    → length ns ≡ 3 → Events.RanCalls ns nss text
script-runs ls text ns nss (line {m = m} {l = l} {out = out} {text = rest} {ls = others} d on) (more g gs) three =
    let same = means-same l d.numbers ns d.means g in
    opened rest others (means-fit g) three (subst (λ (x : List ℕ). Goes stores opening x out m) same d.goes)
    (lines_called on) nss gs
script-runs _ text ns nss (Turns.over _) gs three = elim gs [ ]
