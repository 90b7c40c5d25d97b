use Rattle.std.proofs.Common.{◌≡◌, true}
use Rattle.ff_top.proofs.Commands.{no_word}
use Rattle.ff_top.proofs.command.Command.named.Goals as goal

pub returns : goal.returns
returns c =
    let word = c.args.word.now.text in
    record {
      some = tt;
      none = no_word word
          (λ h. let yes : c.is.result ≡ true = c.is.ensures.1 h in cc)
          (λ h. let yes : c.is-2.result ≡ true = c.is-2.ensures.1 h in cc)
          (λ h. let yes : c.is-3.result ≡ true = c.is-3.ensures.1 h in cc)
          (λ h. let yes : c.is-4.result ≡ true = c.is-4.ensures.1 h in cc);
    }
