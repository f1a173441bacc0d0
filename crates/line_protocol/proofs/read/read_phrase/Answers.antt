use Rattle.std.proofs.Common.{rules, ◌≡◌, false}
use Rattle.std.specs.Prelude.{codes, bytes_eq}
use Rattle.line_protocol.proofs.Rows.{request_more}
use Rattle.line_protocol.proofs.read.read_phrase.Goals as goal

pub returns-else-eq-5 : goal.returns-else-eq-5
returns-else-eq-5 c =
    let plan : bytes_eq c.args.word.now (codes "plan") ≡ false = search rules in
    let apply : bytes_eq c.args.word.now (codes "do") ≡ false = search rules in
    let level : bytes_eq c.args.word.now (codes "level") ≡ false = search rules in
    let contour : bytes_eq c.args.word.now (codes "contour") ≡ false = search rules in
    let volume : bytes_eq c.args.word.now (codes "volume") ≡ false = search rules in
    request_more c.args.word.now c.args.rest.now plan apply level contour volume
