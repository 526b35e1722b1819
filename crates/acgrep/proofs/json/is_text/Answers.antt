-- The test that bytes are UTF-8 is that of std.
use Rattle.std.proofs.Common.{sym}
use Rattle.std.proofs.lemmas.Bool.{false_from_ne_true}
use Rattle.std.proofs.lemmas.Str.{IsUtf8-from_is_utf8, is_utf8-from_IsUtf8}
use Rattle.acgrep.proofs.json.is_text.Goals as goal

pub returns-in-Ok : goal.returns-in-Ok
returns-in-Ok c = record { text = sym (is_utf8-from_IsUtf8 c.args.bytes.now c.in-Ok.ensures.cases.1) }

pub returns-in-Err : goal.returns-in-Err
returns-in-Err c = record { text = sym (false_from_ne_true _ (λ is. c.in-Err.ensures.cases.0 (IsUtf8-from_is_utf8 c.args.bytes.now is))) }
