use Rattle.std.proofs.Common.{◌∙◌, ap, refl, sym}
use Rattle.segtraces.specs.Lines.{stated}
use Rattle.segreplay.proofs.Feeding.{stated_taken}
use Rattle.segreplay.proofs.reading.TracePosition.take_line.Goals as goal

pub returns-in-Ok : goal.returns-in-Ok
returns-in-Ok c =
    let r = c.args.self.now in
    let said = sym (ap (stated r.form) c.as_slice.ensures.value) ∙ sym c.read_line.ensures ∙ c.in-Ok.is in
    stated_taken c.in-Ok.stated r c.take_stated.new.self c.take_stated.result said c.take_stated.ensures

pub returns-in-Err : goal.returns-in-Err
returns-in-Err c =
    let r = c.args.self.now in
    let said = sym (ap (stated r.form) c.as_slice.ensures.value) ∙ sym c.read_line.ensures ∙ c.in-Err.is in
    (refl, said, refl)
