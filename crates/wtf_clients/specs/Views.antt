-- What contracts see of the tables: the store of the metadata with the open transactions, the jobs, the images on the keeper, and the scans.
use Rattle.std.specs.Prelude.{◌≡◌, ℕ, Bool, true, false, List, [], ◌∷◌, ◌++◌, map, replicate, length, Option, None, Some, is_some, if◌then◌else◌, nat_eq}
use Rattle.std.specs.Prelude.{slice_index_or}
use Rattle.std.specs.Map.{lookup, set_value, remove_entry}
use Rattle.wtf_kv.specs.Stores.{Store}
use Rattle.wtf_values.specs.declared.key.Key.{Key}
use Rattle.wtf_values.specs.declared.value.Value.{Value}
use Rattle.wtf_meta.specs.Maps.{Map, metadata_at}
use Rattle.wtf_model.specs.declared.limits.TheConstants.{MAX_JOBS}
use Rattle.wtf_meta.specs.Sessions.{at_label, nothing_open}
use Rattle.wtf_replay.specs.Views.{TxnView}
use Rattle.wtf_compact.specs.Jobs.{JobView}
use Rattle.wtf_gc.specs.Views.{GcView, new_gc}

-- the open transactions by client, in the order of their begin
abbrev pub Clients : Type 0
Clients = List (ℕ × TxnView)

-- the transaction of a client
abbrev pub of_client : Clients → ℕ → Option TxnView
of_client clients c = lookup (nat_eq c) clients

-- Where client c has now this transaction: in the place of the one that it had, or else after all others, since it begins; or
-- has none any more. The others are what they were, in their order.
abbrev pub set_client : ℕ → Option TxnView → Clients → Clients
set_client c None clients = remove_entry (nat_eq c) clients
set_client c (Some x) clients =
    if is_some (of_client clients c) then set_value (nat_eq c) clients x else clients ++ (c, x) ∷ []

-- the transactions but for what they have in hand
abbrev pub without_hand : TxnView → TxnView
without_hand x = record x { session = nothing_open }

abbrev pub without_hands : Clients → Clients
without_hands clients = map (λ e. (e.0, without_hand e.1)) clients

-- the jobs by label
abbrev pub Jobs : Type 0
Jobs = List (Option JobView)

abbrev pub no_jobs : Jobs
no_jobs = replicate MAX_JOBS None

-- the job of a label
abbrev pub of_label : Jobs → ℕ → Option JobView
of_label jobs j = at_label jobs j

-- no label
abbrev pub no_labels : List Bool
no_labels = replicate MAX_JOBS false

-- What stands beside the store and the clients: the numbers of the images that may be on the keeper, and whether it may still hold
-- nothing; the number that is watched, if there is one; the jobs; and the scans of what is in use, with what was open when the last one
-- began: the transactions of a number below `scan_tx`, and the jobs of these labels that are the same still.
pub record BesideView : Type 0 where
  pub images : List ℕ
  pub none : Bool
  pub watched : Option ℕ
  pub jobs : Jobs
  pub gc : GcView
  pub scan_tx : ℕ
  pub scan_jobs : List Bool

-- nothing was saved yet, nothing is watched, there is no job, and no scan has begun
abbrev pub unsaved : BesideView
unsaved = record { images = []; none = true; watched = None; jobs = no_jobs; gc = new_gc; scan_tx = 0; scan_jobs = no_labels }

-- this number is watched, and no other
abbrev pub watching : BesideView → ℕ → BesideView
watching beside n = record beside { watched = Some n }

-- the job of a label was open when the last scan began
abbrev pub was_job : BesideView → ℕ → Bool
was_job beside j = slice_index_or beside.scan_jobs j false

-- other jobs
abbrev pub with_jobs : BesideView → Jobs → BesideView
with_jobs beside jobs = record beside { jobs = jobs }

-- and other labels of jobs that were open when the last scan began
abbrev pub with_labels : BesideView → Jobs → List Bool → BesideView
with_labels beside jobs labels = record beside { jobs = jobs; scan_jobs = labels }

-- another state of the scans
abbrev pub with_gc : BesideView → GcView → BesideView
with_gc beside gc = record beside { gc = gc }

-- there is a place for each label
abbrev pub AreLabelled : {A : Type 0} → List A → Type 0
AreLabelled labels = length labels ≡ MAX_JOBS

-- the store of the metadata, the number of the transaction that begins next, the open transactions, and what stands beside them
pub record TablesView : Type 0 where
  pub kv : Store Key Value
  pub next_tx : ℕ
  pub clients : Clients
  pub beside : BesideView

-- the metadata as they stand now
abbrev pub metadata_now : Store Key Value → Map
metadata_now kv = metadata_at kv kv.number
