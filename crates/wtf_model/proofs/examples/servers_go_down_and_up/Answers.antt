use Rattle.std.proofs.Common.{refl, ◌∙◌, sym}
use Rattle.wtf_model.proofs.StepLaws.{is_down-down, is_down-down_other, is_down-up, is_down-up_other, is_down-start, server_answer-known, server_answer-unknown}
use Rattle.wtf_model.proofs.examples.servers_go_down_and_up.Goals as goal

pub returns : goal.returns
returns c = record {
  known = λ m k h b. ((λ e. e ∙ server_answer-known m k h, λ e. e ∙ sym (server_answer-known m k h)), (λ e. e ∙ server_answer-known m k h, λ e. e ∙ sym (server_answer-known m k h)));
  unknown = λ m k h b. ((λ e. e ∙ server_answer-unknown m k h, λ e. e ∙ sym (server_answer-unknown m k h)), (λ e. e ∙ server_answer-unknown m k h, λ e. e ∙ sym (server_answer-unknown m k h)));
  first = is_down-start;
  down = is_down-down;
  up = is_down-up;
  down_alone = is_down-down_other;
  up_alone = is_down-up_other;
  unknown_down = λ m k. refl;
  unknown_up = λ m k. refl;
  rest_down = λ m k. refl;
  rest_up = λ m k. refl;
}
