use Rattle.std.proofs.Common.{◌≡◌, ℕ, List, arith, ap, ◌∙◌, ◌-◌, length, get_or, drop}
use Rattle.std.proofs.lemmas.List.{length-drop, length-take-le}
use Rattle.segstore.proofs.Copying.{behind, byte_of}
use Rattle.segstore.proofs.copy.put_word.Goals as goal

pub returns-in-None-clause-here : goal.returns-in-None-clause-here
returns-in-None-clause-here c = λ i few lt.
    let bytes = c.args.bytes.now in let from = c.args.from in
    let inside = c.requires.inside in
    let eight : length c.to_le_bytes-in-None.result ≡ 8 = ap length c.to_le_bytes-in-None.ensures in
    let behind_it = length-drop from bytes in
    let left = length-take-le (length bytes - from) (drop from bytes) (omega (arith, behind_it)) in
    let short = c.in-None.ensures.cases in
    behind from (length bytes - from) bytes c.copy_from_slice.new.self c.to_le_bytes-in-None.result i c.copy_from_slice.ensures.after
    (omega (arith, eight, left, short)) (omega (arith, inside)) (omega (arith, lt))
    ∙ ap (λ (l : List ℕ). get_or l i 0) c.to_le_bytes-in-None.ensures ∙ byte_of c.args.word i few
