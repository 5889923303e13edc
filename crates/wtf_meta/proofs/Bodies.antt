-- The bodies of files: they stay where a map's values of the inode stay, and a new file has none.
use Rattle.std.proofs.Common.{◌≡◌, ℕ, List, [], None, Some, refl, sym, ap, subst, arith}
use Rattle.std.specs.Prelude.{slice_index}
use Rattle.std.proofs.Math.Path.{fun_ext}
use Rattle.wtf_base.specs.declared.ids.InodeId.{InodeId}
use Rattle.wtf_values.specs.declared.key.Key.TheVariants.{Inode, Region}
use Rattle.wtf_values.specs.declared.value.Value.TheVariants as value
use Rattle.wtf_meta.specs.Maps.{Map}
use Rattle.wtf_meta.specs.Files.{IsFile, no_bytes}
use Rattle.wtf_meta.specs.FileEdits.{file_of, last_of, region_of, IsLast, IsRegion}
use Rattle.wtf_meta.specs.Contents.{Told, HasBytes}
use Rattle.wtf_meta.specs.Trees.{IsBody}

-- two maps that have the same of an inode have the same file
pub file-stays : (old new : Map) (i : InodeId) → new (Inode i) ≡ old (Inode i) → ((r : ℕ) → new (Region i r) ≡ old (Region i r)) → file_of i new ≡ file_of i old
file-stays old new i inode regions = λ z. record { last = last_of (inode z); region = fun_ext (λ r. ap region_of (regions r)) z }

pub body-stays : (b : ℕ) (told : Told) (old new : Map) (i : InodeId) (bytes : List ℕ) → new (Inode i) ≡ old (Inode i)
    → ((r : ℕ) → new (Region i r) ≡ old (Region i r)) → IsBody b told old i bytes → IsBody b told new i bytes
body-stays b told old new i bytes inode regions is =
    let same : file_of i old ≡ file_of i new = sym (file-stays old new i inode regions) in
    record {
      has = record {
        inode = subst (λ v. IsLast v) (sym inode) is.has.inode;
        regions = λ r. subst (λ v. IsRegion v) (sym (regions r)) (is.has.regions r);
      };
      file = subst (IsFile b) same is.file;
      bytes_are = subst (λ f. HasBytes told b f bytes) same is.bytes_are;
    }

no_byte_at : (x : ℕ) → slice_index [] x ≡ 0
no_byte_at x = refl

IsFile-no_bytes : (b : ℕ) → IsFile b no_bytes
IsFile-no_bytes b = record {
  ends = λ r. omega arith;
  above = λ r lt. refl;
  some = λ h. absurd (omega arith);
  few = omega arith;
}

HasBytes-no_bytes : (told : Told) (b : ℕ) → HasBytes told b no_bytes []
HasBytes-no_bytes told b = record {
  len = omega arith;
  tells = λ x. ap Some (sym (no_byte_at x));
}

-- an inode with a record and no region has a file without a byte
pub body-new : (b : ℕ) (told : Told) (w : Map) (i : InodeId) → w (Inode i) ≡ Some (value.Last 0) → ((r : ℕ) → w (Region i r) ≡ None) → IsBody b told w i []
body-new b told w i inode regions =
    let same : no_bytes ≡ file_of i w = λ z. record { last = last_of (sym inode z); region = fun_ext (λ r. ap region_of (sym (regions r))) z } in
    record {
      has = record {
        inode = subst (λ v. IsLast v) (sym inode) tt;
        regions = λ r. subst (λ v. IsRegion v) (sym (regions r)) tt;
      };
      file = subst (IsFile b) same (IsFile-no_bytes b);
      bytes_are = subst (λ f. HasBytes told b f []) same (HasBytes-no_bytes told b);
    }
