use Rattle.line_protocol.proofs.Keywords.{each_request, each_edit, one_offset, keeps_first_word}
use Rattle.line_protocol.proofs.law.grammar_law.Goals as goal

pub returns : goal.returns
returns c = record {
  requests = each_request;
  edits = each_edit;
  one_offset = λ line j k first second. one_offset line j k first second;
  first_word = λ line more first second. keeps_first_word line more first second;
}
