-- Every line has numbers, a bad one none.
use Prim.Native.Nat.{ℕ, zero, suc, ◌≤◌, ◌<◌}
use mathlib.Core.Path.{◌≡◌, ap, ◌∙◌}
use mathlib.Core.List.{List, [], ◌∷◌, ◌++◌}
use native.Mathlib.Omega.{arith}
use lib.Dec.{leb}
use lib.ListN.{length, length-append}
use borrow.Author.Tests.{leb-true, leb-false}
use Rattle.rules.proofs.Tests.{by_bool}
use Rattle.script_text.specs.Numeral.{numeral}
use Rattle.script_text.specs.Lines.{longest}
use Rattle.script_text.specs.Scan.{found, scan, Means}
use Rattle.script_text.specs.Scan as Scan
use Rattle.script_text.proofs.Scanning.{scan-leads}
use Rattle.script_text.proofs.Reading.{Reading, reading-none, reading-more, reading-last, reading-bad}

abbrev Has : List ℕ → Type 0
Has line = (ns : List ℕ) × Means line ns

found-next : (f : ℕ) (line s ms : List ℕ) → length s < suc f → length line ≤ longest → Reading line s ms
    → ((t ms' : List ℕ) → length t < f → Reading line t ms' → Has line)
    → (v : ℕ) (rest : List ℕ) → scan s ≡ found v rest → Has line
found-next f line s ms few short r on v [] e = (ms ++ v ∷ [], Scan.good short (reading-last v r e))
found-next f line s ms few short r on v (b ∷ t) e =
    let leads = scan-leads s v (b ∷ t) e in
    on t (ms ++ v ∷ []) (omega (arith, ap length leads.text, length-append (numeral v) (b ∷ t)))
    (reading-more t v r (e ∙ ap (λ (x : ℕ). found v (x ∷ t)) leads.ends))

read-on : (f : ℕ) (line : List ℕ) → length line ≤ longest → (s ms : List ℕ) → length s < f → Reading line s ms → Has line
read-on zero line short s ms few r = absurd (omega arith)
read-on (suc f) line short s ms few r = by_bool (scan s).ok
    (λ e. found-next f line s ms few short r (λ t ms' h q. read-on f line short t ms' h q) (scan s).value (scan s).rest
    (λ d. record { ok = e d; value = (scan s).value; rest = (scan s).rest }))
    (λ e. ([], Scan.bad (λ _. reading-bad r e)))

pub line-has : (line : List ℕ) → (ns : List ℕ) × Means line ns
line-has line = by_bool (leb (length line) longest)
    (λ e. read-on (suc (length line)) line (leb-true (length line) longest e) line [] (omega arith) (reading-none line))
    (λ e.
    let long : longest < length line = leb-false (length line) longest e in
    ([], Scan.bad (λ short. absurd (omega arith))))
