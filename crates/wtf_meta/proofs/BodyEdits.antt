-- The bytes of an inode's file once changes of a file were made over a map.
use Rattle.std.proofs.Common.{◌≡◌, ℕ, ◌+◌, ◌<◌, ◌++◌, List, [], ◌∷◌, length, refl, ap, sym, ◌∙◌, subst, arith, inl, inr}
use Rattle.std.proofs.lemmas.Bool.{cases_eq}
use Rattle.std.proofs.lemmas.List.{append-nil, drop_all}
use Rattle.wtf_base.specs.declared.ids.InodeId.{InodeId}
use Rattle.wtf_overlay.specs.Origin.{Place}
use Rattle.wtf_model.specs.ByteCalls.{written, resized, zeroed}
use Rattle.wtf_meta.specs.Maps.{Map, with, AllFit}
use Rattle.wtf_meta.specs.Files.{IsFile, FileView}
use Rattle.wtf_meta.specs.Contents.{Told, TellBytes, HasBytes}
use Rattle.wtf_meta.specs.FileEdits.{FileEdit, file_of, HasFile, edits_of, after}
use Rattle.wtf_meta.specs.Ranges.{Lays, Truncates, Clears}
use Rattle.wtf_meta.specs.Appends.{FileKey, AgreeOn, Appends}
use Rattle.wtf_meta.specs.Trees.{IsBody}
use Rattle.wtf_meta.proofs.Edits.{file_after, has_after}
use Rattle.wtf_meta.proofs.Fitting.{all_fit_from}
use Rattle.wtf_meta.proofs.Written.{Lays-bytes, Lays-no_bytes, AddedTo-bytes, Truncates-bytes, Clears-bytes}

module _ (b : ℕ) (told : Told) (i : InodeId) (ds : List FileEdit) (w : Map) where
  -- what is said of the file after the changes is so of the map after them
  pub body_after : (bytes : List ℕ) → HasFile i w → IsFile b (after ds (file_of i w)) → HasBytes told b (after ds (file_of i w)) bytes
      → IsBody b told (with (edits_of i ds) w) i bytes
  body_after bytes has file are =
      let same = sym (file_after i ds w has) in
      record { has = has_after i ds w has; file = subst (IsFile b) same file; bytes_are = subst (λ (v : FileView). HasBytes told b v bytes) same are }

  -- bytes that are laid over the file
  pub body_written : (off n : ℕ) (f : ℕ → List Place) (old new : List ℕ) → 0 < n → Lays b ds off n f → TellBytes told n f new → IsBody b told w i old
      → IsBody b told (with (edits_of i ds) w) i (written old off new)
  body_written off n f old new some lays tell body =
      body_after (written old off new) body.has (lays.keeps (file_of i w) body.file)
      (Lays-bytes told b ds off n f (file_of i w) old new some lays body.file tell body.bytes_are)

  -- no byte changes nothing
  pub body_unwritten : (off n : ℕ) (f : ℕ → List Place) (old : List ℕ) → n ≡ 0 → Lays b ds off n f → IsBody b told w i old
      → IsBody b told (with (edits_of i ds) w) i old
  body_unwritten off n f old none lays body =
      body_after old body.has (lays.keeps (file_of i w) body.file) (Lays-no_bytes told b ds off n f (file_of i w) old none lays body.file body.bytes_are)

  -- bytes that are added at the file's end
  pub body_added : (read : FileView) (keys : List FileKey) (n : ℕ) (f : ℕ → List Place) (old new : List ℕ) → Appends b read keys ds n f
      → AgreeOn keys read (file_of i w) → AllFit (edits_of i ds) w
      → TellBytes told n f new → IsBody b told w i old → IsBody b told (with (edits_of i ds) w) i (old ++ new)
  body_added read keys n f old new adds agree fit tell body =
      let added = adds.each (file_of i w) body.file agree (all_fit_from i ds w body.has fit) in
      body_after (old ++ new) body.has added.keeps (AddedTo-bytes told b ds n f (file_of i w) old new added tell body.bytes_are)

  -- a file that is truncated
  pub body_resized : (n : ℕ) (old : List ℕ) → Truncates b ds n → IsBody b told w i old → IsBody b told (with (edits_of i ds) w) i (resized old n)
  body_resized n old cut body =
      body_after (resized old n) body.has (cut.keeps (file_of i w) body.file) (Truncates-bytes told b ds n (file_of i w) old cut body.file body.bytes_are)

  -- a file in which holes are made
  pub body_zeroed : (off n : ℕ) (old : List ℕ) → Clears b ds off n → IsBody b told w i old → IsBody b told (with (edits_of i ds) w) i (zeroed old off n)
  body_zeroed off n old clears body =
      body_after (zeroed old off n) body.has (clears.keeps (file_of i w) body.file)
      (Clears-bytes told b ds off n (file_of i w) old clears body.file body.bytes_are)

  -- bytes that are laid over a file without any
  pub body_filled : (n : ℕ) (f : ℕ → List Place) (new : List ℕ) → Lays b ds 0 n f → TellBytes told n f new → IsBody b told w i []
      → IsBody b told (with (edits_of i ds) w) i new
  body_filled n f new lays tell body = elim (cases_eq n 0) [
    | inl none ↦ subst (IsBody b told (with (edits_of i ds) w) i) (no_byte new (sym tell.len ∙ none)) (body_unwritten 0 n f [] none lays body)
    | inr some ↦ subst (IsBody b told (with (edits_of i ds) w) i) (written_all new) (body_written 0 n f [] new (omega arith) lays tell body)
  ]
    where
      no_byte : (bytes : List ℕ) → length bytes ≡ 0 → [] ≡ bytes
      no_byte [] h = refl
      no_byte (byte ∷ bytes) h = absurd (omega arith)

      written_all : (bytes : List ℕ) → written [] 0 bytes ≡ bytes
      written_all bytes = ap (λ l. bytes ++ l) (drop_all (0 + length bytes) [] (omega arith)) ∙ append-nil bytes
