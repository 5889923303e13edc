use Rattle.wtf_dev.specs.Memory.{mem_store}
use Rattle.wtf_meta.specs.Maps.{seen}
use Rattle.wtf_region.specs.Devs.{IsSoundDev, stores}
use Rattle.wtf_rw.specs.Ops.{AreInside}
use Rattle.wtf_files_rows.proofs.steps.first_wrong.Given as goal

-- what is lent is sound, and all bytes lie inside the stores
abbrev pub invariant-loop-step : goal.invariant-loop-step
invariant-loop-step l = record {
  sound : IsSoundDev mem_store l.dev;
  inside : AreInside mem_store (stores l.dev) l.dev.settings (seen l.kv l.at) l.s;
}
