use Rattle.std.proofs.Common.{rules, ◌≡◌, false}
use Rattle.std.specs.Prelude.{codes, bytes_eq}
use Rattle.line_protocol.proofs.Rows.{request_alone}
use Rattle.line_protocol.proofs.read.read_single.Goals as goal

pub returns-else-eq-5 : goal.returns-else-eq-5
returns-else-eq-5 c =
    let stat : bytes_eq c.args.word.now (codes "stat") ≡ false = search rules in
    let sync : bytes_eq c.args.word.now (codes "sync") ≡ false = search rules in
    let commit : bytes_eq c.args.word.now (codes "commit") ≡ false = search rules in
    let export : bytes_eq c.args.word.now (codes "export") ≡ false = search rules in
    let quit : bytes_eq c.args.word.now (codes "quit") ≡ false = search rules in
    request_alone c.args.word.now stat sync commit export quit
