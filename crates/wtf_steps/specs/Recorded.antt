-- The keys that calls at a handle record, by what the attempt saw and what is in hand.
use Rattle.std.specs.Prelude.{ℕ, ◌-◌, ◌*◌, ◌++◌, min, List, [], Option, Some, None}
use Rattle.wtf_model.specs.declared.limits.TheConstants.{MAX_REGIONS}
use Rattle.wtf_base.specs.declared.ids.InodeId.{InodeId}
use Rattle.wtf_values.specs.declared.key.Key.{Key}
use Rattle.wtf_meta.specs.declared.session.Handle.{Handle}
use Rattle.wtf_meta.specs.Maps.{Map}
use Rattle.wtf_meta.specs.Files.{file_len}
use Rattle.wtf_meta.specs.FileEdits.{file_of}
use Rattle.wtf_meta.specs.Appends.{keys_of, length_keys, region_keys, touched, append_keys as file_append_keys}

-- keys of an open file; of a handle that is not open none
abbrev pub if_open : Option Handle → (Handle → List Key) → List Key
if_open None keys = []
if_open (Some h) keys = keys h

-- what tells the length of an inode's file
abbrev pub len_keys : Map → InodeId → List Key
len_keys w i = keys_of i (length_keys (file_of i w))

-- of an append of n bytes, where a region has b
abbrev pub append_keys : ℕ → Map → Option Handle → ℕ → List Key
append_keys b w h n = if_open h (λ g. keys_of g.inode (file_append_keys b (file_of g.inode w) n))

-- how many bytes a read of n finds from an offset on, in a file of so many bytes, which is no longer than the greatest length
abbrev pub found : (cap len off n : ℕ) → ℕ
found cap len off n = min n (min len cap - off)

-- how many bytes of an inode's file it finds, where a region has b
abbrev pub found_in : ℕ → Map → Handle → ℕ → ℕ
found_in b w h n = found (MAX_REGIONS * b) (file_len b (file_of h.inode w)) h.off n

-- of a read of n bytes: what tells the length, and the regions in which the bytes lie that are found
abbrev pub read_keys : ℕ → Map → Option Handle → ℕ → List Key
read_keys b w h n = if_open h (λ g. len_keys w g.inode ++ keys_of g.inode (region_keys (touched b g.off (found_in b w g n))))
