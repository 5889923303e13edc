use Rattle.std.proofs.Common.{[], ◌∷◌, refl, ap, ◌∙◌}
use Rattle.std.specs.FinMap.{entries}
use Rattle.wtf_model.specs.declared.answer.Answer.TheVariants as answer
use Rattle.wtf_model.specs.declared.event.Holder.TheVariants as holder
use Rattle.wtf_model.specs.Scans.{first_begun}
use Rattle.wtf_model.specs.Examples.{stamped, stamped_job}
use Rattle.wtf_model.proofs.ScanLaws.{none_in, one_in, two_in, held_scan, only_scan}
use Rattle.wtf_model.proofs.scan_examples.held_scans.Goals as goal

pub returns : goal.returns
unfolding first_begun
returns c = record {
  first_begun = λ m t u free open_ones noted. only_scan m (answer.Held (holder.Client 5))
      (held_scan m ((2, stamped 4 t) ∷ (5, stamped 3 u) ∷ []) (entries m.jobs) (4 ∷ 3 ∷ []) free (ap (λ x. entries x) open_ones ∙ two_in 2 5 (stamped 4 t) (stamped 3 u)) refl noted);
  before_a_job = λ m t job free open_ones jobs noted. only_scan m (answer.Held (holder.Client 5))
      (held_scan m ((5, stamped 4 t) ∷ []) ((0, stamped_job 3 job) ∷ []) (4 ∷ 3 ∷ []) free (ap (λ x. entries x) open_ones ∙ one_in 5 (stamped 4 t))
      (ap (λ x. entries x) jobs ∙ one_in 0 (stamped_job 3 job)) noted);
  lowest_label = λ m i j free open_ones jobs noted. only_scan m (answer.Held (holder.Job 6))
      (held_scan m [] ((6, stamped_job 4 j) ∷ (7, stamped_job 3 i) ∷ []) (3 ∷ 4 ∷ []) free (ap (λ x. entries x) open_ones ∙ none_in)
      (ap (λ x. entries x) jobs ∙ two_in 7 6 (stamped_job 3 i) (stamped_job 4 j)) noted);
  begun_later = λ m t free open_ones jobs noted. only_scan m answer.Scanning
      (held_scan m ((5, stamped 4 t) ∷ []) [] (3 ∷ []) free (ap (λ x. entries x) open_ones ∙ one_in 5 (stamped 4 t)) (ap (λ x. entries x) jobs ∙ none_in) noted);
  leaves = λ m by. refl;
}
