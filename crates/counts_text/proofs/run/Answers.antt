-- `counts_text::run` meets its contract: the verdict settles which of the definition's texts is written. Assumes nothing.
use mathlib.Core.Path.{refl, sym, ◌∙◌}
use native.Mathlib.Omega.{arith}
use borrow.Author.Rules.{rules}
use Rattle.counts_text.specs.Lines.{error_line}
use Rattle.counts_text.proofs.ProgramLaws.{too_long, bad_text, good_text, good_patches, good_counts}
use Rattle.counts_text.proofs.OutputLaws.{promised_of_output, fitting_output}
use Rattle.counts_text.proofs.run.Goals as goal
use Rattle.counts_text.proofs.run.Goals.{in-Ok, in-Err}

pub put_error-requires : goal.put_error-requires
put_error-requires c =
    fitting_output c.args.input.now (error_line 0 10) c.args.out.now (sym (too_long _ (omega arith))) (search rules)

pub put_error-requires-in-Err : goal.put_error-requires-in-Err
put_error-requires-in-Err c =
    fitting_output c.args.input.now _ c.args.out.now (bad_text _ (omega arith) _ _ c.in-Err.ensures) (search rules)

pub put_counts-requires : goal.put_counts-requires
put_counts-requires c =
    let says = c.in-Ok.ensures in
    (good_patches _ _ _ says.0 says.3, fitting_output c.args.input.now _ c.args.out.now (good_counts _ _ _ says.0 says.3 _ says.1 ∙ good_text _ (omega arith) _ says.0) (search rules))

pub returns-then-too_long : goal.returns-then-too_long
returns-then-too_long c =
    let told = promised_of_output c.args.input.now (search rules) refl c.put_error.ensures (sym (too_long _ (omega arith))) _ refl in
    record { answer = told.0; text = told.1.0; fits = told.1.1 }

pub returns : goal.returns
returns c = elim c.match-judge.branch [
  | in-Ok w ↦
      let says = w.in-Ok.ensures in
      let told =
      promised_of_output c.args.input.now (search rules) refl w.put_counts.ensures (good_counts _ _ _ says.0 says.3 _ says.1 ∙ good_text _ (omega arith) _ says.0) _ w.output-is in
      record { answer = told.0; text = told.1.0; fits = told.1.1 }
  | in-Err w ↦
      let told = promised_of_output c.args.input.now (search rules) refl w.put_error-in-Err.ensures (bad_text _ (omega arith) _ _ w.in-Err.ensures) _ w.output-is in
      record { answer = told.0; text = told.1.0; fits = told.1.1 }
]
