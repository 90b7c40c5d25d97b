use Rattle.std.proofs.Common.{rules, length, drop, drop-drop, length-drop, arith, ap, sym, ◌∙◌, ℕ}
use Rattle.ff_io.proofs.Bytes.{ReadConsumes-given}
use Rattle.ff_io.proofs.Causes.{HasCause-counted}
use Rattle.ff_io.proofs.mem_source.MemSourceSource.read.Goals as goal

pub returns-in_err-begin-clause-cause : goal.returns-in_err-begin-clause-cause
returns-in_err-begin-clause-cause c = HasCause-counted _ _ _ (search rules) (search rules)

pub returns-clause-bytes : goal.returns-clause-bytes
returns-clause-bytes c =
    ReadConsumes-given c.self.inside.chunk _ c.args.self.now.left c.args.buf.now _ _ (search rules)
    (omega (arith, length-drop {A = ℕ}, ap (λ s. length s.left) c.self.view_is))
    (search rules)
    (sym (drop-drop c.min-count.result c.self.inside.taken c.self.inside.bytes.items)
    ∙ ap (λ s. drop c.min-count.result s.left) c.self.view_is)
