use Rattle.wtf_dev.proofs.Keeping.{keeper_kept-none, keeper_kept-one}
use Rattle.wtf_dev.proofs.examples.a_keeper_holds_what_it_was_handed.Goals as goal

pub returns : goal.returns
returns c = record {
  nothing = keeper_kept-none;
  one = λ old new b image kept held. (keeper_kept-one old new b image kept held).0;
  faults = λ old new images kept. kept.faults;
  tells = λ old new images kept. kept.tells;
}
