-- `counts_text::parsers::patch_line` meets its contract: the head of the line tells the separation, and its ink values follow. Assumes nothing.
use native.Mathlib.Omega.{arith}
use Rattle.counts_text.proofs.FirstLine.{next_line, patch_unended, patch_unheaded, patch_unread, ink_limit, patch_form, patch_separation, patch_inks}
use Rattle.counts_text.proofs.parsers.patch_line.Goals as goal

pub returns-in_err-line : goal.returns-in_err-line
returns-in_err-line c = rw c.from_residual.ensures (patch_unended _ c.in_err-line.ensures.pieces)

pub returns-in_err-sep : goal.returns-in_err-sep
returns-in_err-sep c = rw c.from_residual-in_err-sep.ensures (patch_unheaded _ _ _ c.in_ok-line.ensures.pieces c.in_err-sep.ensures)

pub returns-in_err-c : goal.returns-in_err-c
returns-in_err-c c = rw c.from_residual-in_err-c.ensures (patch_unread _ _ _ c.in_ok-line.ensures.pieces _ _ c.in_ok-sep.ensures c.in_err-c.ensures)

pub overflow_cast-inks : goal.overflow_cast-inks
overflow_cast-inks c = omega (arith, ink_limit _ _ _ c.in_ok-line.ensures.pieces _ _ c.in_ok-sep.ensures _ c.in_ok-c.ensures 0 (omega arith))

pub overflow_cast-inks-2 : goal.overflow_cast-inks-2
overflow_cast-inks-2 c = omega (arith, ink_limit _ _ _ c.in_ok-line.ensures.pieces _ _ c.in_ok-sep.ensures _ c.in_ok-c.ensures 1 (omega arith))

pub overflow_cast-inks-3 : goal.overflow_cast-inks-3
overflow_cast-inks-3 c = omega (arith, ink_limit _ _ _ c.in_ok-line.ensures.pieces _ _ c.in_ok-sep.ensures _ c.in_ok-c.ensures 2 (omega arith))

pub returns : goal.returns
returns c = (
  patch_form _ _ _ c.in_ok-line.ensures.pieces _ _ c.in_ok-sep.ensures _ c.in_ok-c.ensures,
  patch_separation _ _ _ c.in_ok-line.ensures.pieces _ _ c.in_ok-sep.ensures _ c.in_ok-c.ensures,
  patch_inks _ _ _ c.in_ok-line.ensures.pieces _ _ c.in_ok-sep.ensures _ c.in_ok-c.ensures,
  next_line _ _ _ c.in_ok-line.ensures.pieces,
)
