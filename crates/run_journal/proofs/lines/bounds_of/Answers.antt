use Rattle.std.proofs.Common.{◌≡◌, ◌∙◌, ◌+◌, Err, length, refl, sym, ap, arith}
use Rattle.std.proofs.lemmas.Result.{err_from_is_err_and}
use Rattle.feed_lines.specs.Parts.{lines_in}
use Rattle.run_journal.specs.declared.fault.JournalFault.{JournalFault}
use Rattle.run_journal.specs.declared.fault.JournalFault.TheVariants.{Line}
use Rattle.run_journal.proofs.Journals.{enough, miscounted, refused, fault_of, line_of}
use Rattle.run_journal.proofs.Rising.{bounds_rise, bounds_within}
use Rattle.run_journal.proofs.lines.bounds_of.Goals as goal

pub returns-in_err-reading-clause-line : goal.returns-in_err-reading-clause-line
returns-in_err-reading-clause-line c = λ n e.
    let p = err_from_is_err_and c.from_residual.result c.from_residual.ensures.1 in
    let fault = ap (λ (f : JournalFault). Err f) (sym p.2 ∙ fault_of c.from_residual.result p.0 (Line n) p.1 e) in
    refused c.args.bytes.now c.args.count c.args.steps n (c.in_err-reading.ensures.line n fault)

pub returns-then-len-count-clause-bounds : goal.returns-then-len-count-clause-bounds
returns-then-len-count-clause-bounds c =
    let size : length c.in_ok-reading.reading.bounds ≡ c.args.count = omega arith in
    enough c.args.bytes.now c.in_ok-reading.reading.bounds c.args.count c.args.steps c.in_ok-reading.ensures.bounds size

pub returns-else-len-count-clause-line : goal.returns-else-len-count-clause-line
returns-else-len-count-clause-line c = λ n e.
    let past : c.in_ok-reading.reading.lines + 1 ≡ n = line_of _ _ (fault_of _ (Line (c.in_ok-reading.reading.lines + 1)) (Line n) refl e) in
    miscounted c.args.bytes.now c.in_ok-reading.reading.bounds c.args.count c.args.steps n c.in_ok-reading.ensures.bounds
    (λ same. omega (arith, same)) (omega (arith, past, c.in_ok-reading.ensures.lines))

pub returns-then-len-count-clause-rising : goal.returns-then-len-count-clause-rising
returns-then-len-count-clause-rising c = bounds_rise c.args.steps (lines_in c.args.bytes.now) c.in_ok-reading.reading.bounds c.in_ok-reading.ensures.bounds

pub returns-then-len-count-clause-within : goal.returns-then-len-count-clause-within
returns-then-len-count-clause-within c = bounds_within c.args.steps (lines_in c.args.bytes.now) c.in_ok-reading.reading.bounds c.in_ok-reading.ensures.bounds
