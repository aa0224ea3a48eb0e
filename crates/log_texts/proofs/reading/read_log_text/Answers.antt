-- `log_texts::reading::read_log_text` meets its contract: the names, then the lines. Assumes nothing.
use Rattle.std.proofs.Common.{rules}
use Rattle.refusal.proofs.Passing.{passed_up}
use mathlib.Core.Path.{sym}
use native.Mathlib.Omega.{arith}
use lib.Seq.{length-take-le}
use Rattle.log_texts.proofs.Lines.{header_refused, log_text_read}
use Rattle.log_texts.proofs.reading.read_log_text.Goals as goal

pub returns-in_err-h : goal.returns-in_err-h
returns-in_err-h c = rw (passed_up _ _ c.from_residual.ensures.1) (header_refused c.args.s.now _ _ _ c.in_err-h.ensures)

pub slice_bounds-read_log_lines-end : goal.slice_bounds-read_log_lines-end
slice_bounds-read_log_lines-end c =
    omega (arith, c.in_ok-h.ensures.few, c.requires.0, c.read_header.auto.names)

pub slice_bounds-read_log_lines-end-2 : goal.slice_bounds-read_log_lines-end-2
slice_bounds-read_log_lines-end-2 c =
    sym (length-take-le c.in_ok-h.h.count c.read_header.new.names
    (omega (arith, c.in_ok-h.ensures.few, c.requires.0, c.read_header.auto.names)))

pub slice_bounds-read_log_lines-end-3 : goal.slice_bounds-read_log_lines-end-3
slice_bounds-read_log_lines-end-3 c =
    omega (arith, c.in_ok-h.ensures.few, c.requires.1, c.read_header.auto.table)

pub slice_bounds-read_log_lines-end-4 : goal.slice_bounds-read_log_lines-end-4
slice_bounds-read_log_lines-end-4 c =
    sym (length-take-le c.in_ok-h.h.count c.read_header.new.table
    (omega (arith, c.in_ok-h.ensures.few, c.requires.1, c.read_header.auto.table)))

pub read_log_lines-requires : goal.read_log_lines-requires
read_log_lines-requires c =
    let x = length-take-le c.in_ok-h.h.count c.read_header.new.names
    (omega (arith, c.in_ok-h.ensures.few, c.requires.0, c.read_header.auto.names)) in
    let y = length-take-le c.in_ok-h.h.count c.read_header.new.table
    (omega (arith, c.in_ok-h.ensures.few, c.requires.1, c.read_header.auto.table)) in
    (c.in_ok-h.ensures.inside, record { fit = omega (arith, x, y); few = omega (arith, y, c.in_ok-h.ensures.few) })

pub returns : goal.returns
returns c =
    log_text_read c.args.s.now _ _ _ c.in_ok-h.ensures _
    (length-take-le c.in_ok-h.h.count c.read_header.new.names
    (omega (arith, c.in_ok-h.ensures.few, c.requires.0, c.read_header.auto.names))) c.read_log_lines.ensures
