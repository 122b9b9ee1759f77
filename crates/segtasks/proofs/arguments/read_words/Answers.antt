use Rattle.std.proofs.Common.{◌∙◌, ℕ, List, refl, sym, map, string_bytes, true≢false}
use Rattle.clap.specs.Words.{kind_of}
use Rattle.segtasks.proofs.WordsRead.{choice_read, command_name, command_read, fault_read, parse_found, parse_has_command, parse_fails}
use Rattle.segtasks.proofs.arguments.read_words.Goals as goal

pub command_of-requires : goal.command_of-requires
command_of-requires c =
    let words : List (List ℕ) = map (λ w. string_bytes w) c.args.words.now in
    let found = parse_found _ words c.in-Ok.matches _ _ c.in_ok-program.ensures.0 c.in-Ok.ensures.kinds c.in-Ok.ensures.matches c.in-Some.ensures.name c.in-Some.ensures.rows in
    command_name words _ found.0 found.1

pub returns-in-Some-command_of : goal.returns-in-Some-command_of
returns-in-Some-command_of c =
    let words : List (List ℕ) = map (λ w. string_bytes w) c.args.words.now in
    let found = parse_found _ words c.in-Ok.matches _ _ c.in_ok-program.ensures.0 c.in-Ok.ensures.kinds c.in-Ok.ensures.matches c.in-Some.ensures.name c.in-Some.ensures.rows in
    command_read words _ c.in-Some-command_of.command found.0 found.1 c.in-Some-command_of.ensures.some

pub returns-in-Some : goal.returns-in-Some
returns-in-Some c =
    let words : List (List ℕ) = map (λ w. string_bytes w) c.args.words.now in
    let found = parse_found _ words c.in-Ok.matches _ _ c.in_ok-program.ensures.0 c.in-Ok.ensures.kinds c.in-Ok.ensures.matches c.in-Some.ensures.name c.in-Some.ensures.rows in
    choice_read words _ c.in_ok-misnamed-in-None-command_of.field-0 found.0 found.1 (c.in-None-command_of.ensures.none refl)

pub returns-in-Ok : goal.returns-in-Ok
returns-in-Ok c =
    absurd (true≢false (sym (parse_has_command _ c.in-Ok.matches c.in_ok-program.ensures c.in-Ok.ensures.parsed) ∙ sym c.in-None.ensures.variant))

pub returns : goal.returns
returns c =
    let words : List (List ℕ) = map (λ w. string_bytes w) c.args.words.now in
    fault_read words (kind_of c.in-Err.error) c.refused.result (parse_fails _ words c.in-Err.error c.in_ok-program.ensures.0 c.in-Err.ensures.kinds) c.refused.ensures
