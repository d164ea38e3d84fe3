-- What `run` promises of a text that was written: it is the definition's, it has room, and the memory behind it stays.
-- Assumes nothing.
use Prim.Native.Nat.{ℕ, ◌+◌, ◌≤◌, ◌<◌}
use mathlib.Core.Path.{◌≡◌, refl, sym, ap, ◌∙◌}
use mathlib.Core.List.{List, [], ◌++◌}
use native.Mathlib.Omega.{arith}
use lib.ListN.{length, take, drop, length-append, length-drop}
use lib.Seq.{take_at}
use Rattle.counts_text.specs.declared.writing.Output.{Output}
use Rattle.counts_text.specs.Output.{Puts}
use Rattle.counts_text.specs.Text.{Wrote}
use Rattle.counts_text.specs.Lines.{error_line}
use Rattle.counts_text.specs.Program.{counts_text}
use Rattle.counts_text.proofs.WroteLaws.{puts_as, wrote_as}
use Rattle.counts_text.proofs.Fits.{output_fits}
use Rattle.counts_text.proofs.ProgramLaws.{too_long}

pub promised : (text before after : List ℕ) (r : ℕ) → length before ≡ 16384 → Wrote (counts_text text) before after r
    → (r ≡ length (counts_text text)) × ((after ≡ counts_text text ++ drop r before) × ((r ≤ length after) × (r ≡ length (take r after))))
promised text before after r room w =
    let front : take r after ≡ counts_text text = rw w.memory (take_at (counts_text text) (drop r before) r (sym w.many)) in
    let whole : length after ≡ length before = ap length w.memory ∙ simp (length-append, length-drop) (omega (arith, w.many, output_fits text, room)) in
    (w.many, (w.memory, (omega (arith, w.many, whole, output_fits text, room), rw front w.many)))

-- and of a text that is put at the beginning of an output
pub promised_of_output : (text : List ℕ) {run : List ℕ} {start after : Output} → length start.text.now ≡ 16384 → start.done ≡ 0 → Puts run start after
    → run ≡ counts_text text → (out : Output) → out ≡ after
    → (out.done ≡ length (counts_text text)) × ((out.text.now ≡ counts_text text ++ drop out.done start.text.now) × ((out.done ≤ length out.text.now) × (out.done ≡ length (take out.done out.text.now))))
promised_of_output text {run} {start} {after} room none p e out same =
    let q : Puts (counts_text text) start out = rw same (puts_as p e) in
    promised text start.text.now out.text.now out.done room (q.wrote [] start.text.now (record { many = none; memory = rw none refl }))

-- there is room for it
pub fitting : (text run memory : List ℕ) → run ≡ counts_text text → length memory ≡ 16384 → length run ≤ length memory
fitting text run memory e room = rw e (omega (arith, output_fits text, room))

-- from an output's beginning on
pub fitting_output : (text run memory : List ℕ) → run ≡ counts_text text → length memory ≡ 16384 → 0 + length run ≤ length memory
fitting_output text run memory e room = omega (arith, fitting text run memory e room)

-- and memory in which the line stands that answers a text which is too long holds so many bytes
pub long_fits : (text before after : List ℕ) (r : ℕ) → 65536 < length text → length before ≡ 16384 → Wrote (error_line 0 10) before after r
    → (r ≤ length after) × (r ≡ length (take r after))
long_fits text before after r long room w = (promised text before after r room (wrote_as w (sym (too_long text long)))).1.1
