use Rattle.std.proofs.Common.{ap, ◌∙◌}
use Rattle.wtf_model.specs.declared.item.Item.TheVariants.{NodeOf, BodyOf}
use Rattle.wtf_model.specs.Items.{meets, source_reads}
use Rattle.wtf_model.proofs.ItemLaws.{meets-none}
use Rattle.wtf_model.proofs.ItemExamples.{stale_needless, stale_lawful, stale_node, stale_body, another_file}
use Rattle.wtf_model.proofs.item_examples.stale_jobs_have_a_cause.Goals as goal

pub returns : goal.returns
returns c = record {
  another_file = λ m j base now job there path touched. stale_needless m j base now job there (another_file job path touched);
  untouched = λ m j base now job there none.
      stale_needless m j base now job there (ap (λ items. meets items (source_reads job.path)) none ∙ meets-none (source_reads job.path));
  changed = λ m j job there less one. stale_lawful m j job (BodyOf job.path) there less one (stale_body job.path);
  moved = λ m j job there less one. stale_lawful m j job (NodeOf job.path) there less one (stale_node job.path);
}
