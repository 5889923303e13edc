use Rattle.std.proofs.Common.{refl, ap}
use Rattle.wtf_model.specs.Items.{body_of}
use Rattle.wtf_model.proofs.ItemExamples.{appended, sought_end, written, written_alone, unopened}
use Rattle.wtf_model.proofs.item_examples.calls_by_handles.Goals as goal

pub returns : goal.returns
returns c = record {
  appended = appended;
  written = λ s f bytes. refl;
  changed = written;
  changed_alone = written_alone;
  sought = λ s f n. refl;
  sought_end = sought_end;
  not_open = λ cap s f bytes none. (ap body_of none, unopened cap s f bytes none);
}
