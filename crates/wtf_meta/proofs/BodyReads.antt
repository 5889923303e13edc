-- What was read of a file on one map is so of every map that agrees on the recorded keys.
use Rattle.std.proofs.Common.{◌≡◌, ℕ, ◌+◌, ◌-◌, ◌*◌, ◌<◌, ◌++◌, min, List, length, sym, ◌∙◌, subst}
use Rattle.wtf_base.specs.declared.ids.InodeId.{InodeId}
use Rattle.wtf_kv.specs.Edits.{Agree}
use Rattle.wtf_overlay.specs.Origin.{Place, Plans}
use Rattle.wtf_overlay.specs.declared.part.Piece.{Piece}
use Rattle.wtf_model.specs.declared.limits.TheConstants.{MAX_REGIONS}
use Rattle.wtf_model.specs.Done.{part}
use Rattle.wtf_meta.specs.Maps.{Map, AllFit, with}
use Rattle.wtf_meta.specs.Files.{file_len, file_origin}
use Rattle.wtf_meta.specs.Contents.{Told, TellBytes, PiecesTell, lists_in}
use Rattle.wtf_meta.specs.FileEdits.{FileEdit, file_of, edits_of}
use Rattle.wtf_meta.specs.Appends.{keys_of, length_keys, append_keys, touched, region_keys, Appends, HasNoRoom}
use Rattle.wtf_meta.specs.Trees.{IsBody}
use Rattle.wtf_meta.proofs.Touching.{agree_file, agree_file_len, agree_file_plans}
use Rattle.wtf_meta.proofs.Reading.{PiecesTell-read}
use Rattle.wtf_meta.proofs.BodyEdits.{body_added}

module _ (b : ℕ) (told : Told) (i : InodeId) (u w : Map) where
  -- the length that was read is the number of bytes
  pub body_length : (all : List ℕ) → Agree (keys_of i (length_keys (file_of i u))) u w → IsBody b told w i all → file_len b (file_of i u) ≡ length all
  body_length all agree body = sym (agree_file_len b i u w agree) ∙ body.bytes_are.len

  -- pieces that were read tell a part of the bytes, as far as they go
  pub body_read : (all : List ℕ) (off n k : ℕ) (ps : List Piece) → 0 < b → Agree (keys_of i (region_keys (touched b off k))) u w → IsBody b told w i all
      → k ≡ min n (length all - off)
      → Plans ps k (λ j. file_origin b (lists_in b told) (file_of i u) (off + j)) → PiecesTell told ps (part off n all)
  body_read all off n k ps pos agree body most plans =
      PiecesTell-read told b (file_of i w) all off n k ps body.bytes_are most (agree_file_plans b off k (lists_in b told) i u w ps pos agree plans)

  -- bytes that were added at the end of the file that was read are added at the end of this one
  pub body_appended : (ds : List FileEdit) (n : ℕ) (f : ℕ → List Place) (old new : List ℕ) → Appends b (file_of i u) (append_keys b (file_of i u) n) ds n f
      → Agree (keys_of i (append_keys b (file_of i u) n)) u w → AllFit (edits_of i ds) w → TellBytes told n f new → IsBody b told w i old
      → IsBody b told (with (edits_of i ds) w) i (old ++ new)
  body_appended ds n f old new adds agree fit tell body =
      body_added b told i ds w (file_of i u) (append_keys b (file_of i u) n) n f old new adds
      (agree_file i (append_keys b (file_of i u) n) u w agree) fit tell body

  -- no room in the file that was read is none in this one
  pub body_full : (n : ℕ) (old : List ℕ) → HasNoRoom b (file_of i u) (append_keys b (file_of i u) n) n → Agree (keys_of i (append_keys b (file_of i u) n)) u w
      → IsBody b told w i old
      → MAX_REGIONS * b < length old + n
  body_full n old full agree body =
      subst (λ l. MAX_REGIONS * b < l + n) body.bytes_are.len (full.each (file_of i w) body.file (agree_file i (append_keys b (file_of i u) n) u w agree))
