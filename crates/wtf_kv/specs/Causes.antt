-- Why no install was made ready.
use Rattle.std.specs.Prelude.{◌≡◌, Option, Some}
use Rattle.wtf_kv.specs.declared.ready.NotReady.{NotReady}
use Rattle.wtf_kv.specs.declared.ready.NotReady.TheVariants.{Unfit, Memory}

-- a key that is named is the first that does not fit; want of memory is free
abbrev pub IsCause : {K : Type 0} → NotReady K → Option K → Type 0
IsCause (Unfit key) first = first ≡ Some key
IsCause Memory first = Unit {0}
