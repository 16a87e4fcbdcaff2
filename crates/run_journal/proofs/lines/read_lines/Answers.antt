use Rattle.std.proofs.Common.{◌∙◌, ◌+◌, Err, length, drop, sym, ap, arith}
use Rattle.std.proofs.lemmas.List.{take_rest}
use Rattle.std.proofs.lemmas.Result.{err_from_is_err_and}
use Rattle.feed_lines.specs.Parts.{lines_in}
use Rattle.run_journal.specs.Reading.{meant}
use Rattle.run_journal.specs.declared.fault.JournalFault.{JournalFault}
use Rattle.run_journal.specs.declared.fault.JournalFault.TheVariants.{Line}
use Rattle.run_journal.proofs.Journals.{lines_from, line_within, fault_of}
use Rattle.run_journal.proofs.lines.read_lines.Goals as goal

pub returns-in_err-read-clause-line : goal.returns-in_err-read-clause-line
returns-in_err-read-clause-line c = λ n e.
    let bytes = c.args.bytes.now in
    let lines = lines_from bytes _ c.read.at c.line_size-size.result (take_rest bytes c.read.at) c.read-test.true c.line_size-size.ensures in
    let p = err_from_is_err_and c.from_residual.result c.from_residual.ensures.1 in
    let fault = ap (λ (f : JournalFault). Err f) (sym p.2 ∙ fault_of c.from_residual.result p.0 (Line n) p.1 e) in
    sym c.read.invariant.meant ∙ ap (meant c.args.steps c.read.reading) lines ∙ c.in_err-read.ensures.line n fault (lines_in (drop (c.read.at + (c.line_size-size.result + 1)) bytes))

pub read-preserved : goal.read-preserved
read-preserved c =
    let bytes = c.args.bytes.now in
    let lines = lines_from bytes _ c.read.at c.line_size-size.result (take_rest bytes c.read.at) c.read-test.true c.line_size-size.ensures in
    let within = line_within bytes _ c.read.at c.line_size-size.result (take_rest bytes c.read.at) c.read-test.true c.line_size-size.ensures in
    let more = c.in_ok-read.ensures.lines in
    record {
      meant = sym (c.in_ok-read.ensures.ok (lines_in (drop (c.read.at + (c.line_size-size.result + 1)) bytes))) ∙ sym (ap (meant c.args.steps c.read.reading) lines) ∙ c.read.invariant.meant;
      lines = omega (arith, ap length lines, more, c.read.invariant.lines);
      few = omega (arith, more, c.read.invariant.few);
      bounds = c.in_ok-read.ensures.bounds;
      near = omega (arith, within);
    }
