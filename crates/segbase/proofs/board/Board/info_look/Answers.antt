use Rattle.std.proofs.Common.{◌≡◌, Option, IfSome, sym, subst}
use Rattle.segword.specs.Words.{Info, info_word}
use Rattle.segbase.proofs.Taking.{looked}
use Rattle.segbase.proofs.board.Board.info_look.Goals as goal

pub returns-clause-held : goal.returns-clause-held
returns-clause-held c = (looked c.args.self.now c.args.bucket c.load_at.result c.unwrap.result c.args.pass.now _
    c.requires.bit (sym (subst (λ (o : Option Info). IfSome o (λ info. info_word info ≡ c.load_at.result))
    c.unwrap.ensures c.unpack.ensures.some)) c.load_at.ensures).0

pub returns-clause-version : goal.returns-clause-version
returns-clause-version c = (looked c.args.self.now c.args.bucket c.load_at.result c.unwrap.result c.args.pass.now _
    c.requires.bit (sym (subst (λ (o : Option Info). IfSome o (λ info. info_word info ≡ c.load_at.result))
    c.unwrap.ensures c.unpack.ensures.some)) c.load_at.ensures).1
