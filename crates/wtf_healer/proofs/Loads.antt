-- Bytes are one image at most, and the tree that is left of an image is that of what was loaded.
use Rattle.std.proofs.Common.{◌≡◌, ◌≤◌, ℕ, Bool, List, [], sym, ap, ◌∙◌, subst}
use Rattle.std.proofs.lemmas.List.{append-nil}
use Rattle.wtf_model.specs.Tree.{Tree}
use Rattle.wtf_meta.specs.Contents.{Told}
use Rattle.wtf_meta.specs.Maps.{Map, metadata_at}
use Rattle.wtf_meta.specs.Trees.{Stands}
use Rattle.wtf_image.specs.declared.loads.Loaded.{Loaded}
use Rattle.wtf_image.specs.Images.{HasText}
use Rattle.wtf_image.specs.Lookups.{row_at}
use Rattle.wtf_image.specs.Outcome.{IsLoadWithout}
use Rattle.wtf_image.specs.Rows.{ImageRows}
use Rattle.wtf_image.specs.Texts.{image_text}
use Rattle.wtf_image.proofs.Forms.{one_image}
use Rattle.wtf_image.proofs.PlainLaws.{same_optional}
use Rattle.wtf_healer.specs.Live.{IsLiveMap, IsLiveTree}

pub same_rows : (x y : ImageRows) (bytes : List ℕ) → HasText x bytes → HasText y bytes → x ≡ y
same_rows x y bytes one two = (one_image x y [] one.shape two.shape (sym two.text ∙ one.text ∙ sym (append-nil (image_text x)))).0

-- what is left of what was loaded stands for this tree
pub record IsLiveLoad (told : Told) (lost : ℕ → Bool) (l : Loaded) (t : Tree) : Type 0 where
  pub live : Map
  pub is_live : IsLiveMap l.settings.region told lost (metadata_at l.kv l.kv.number) live
  pub stands : (tx : ℕ) → l.next_tx ≤ tx → Stands l.settings.region told tx 0 live t

pub live_load : (told : Told) (lost out : ℕ → Bool) (size : ℕ → ℕ → ℕ) (bytes : List ℕ) (l : Loaded) (t : Tree) → IsLoadWithout out size bytes l
    → IsLiveTree told lost bytes t → IsLiveLoad told lost l t
live_load told lost out size bytes l t load tree =
    let same : tree.rows ≡ load.rows = same_rows tree.rows load.rows bytes tree.text load.taken.text in
    let region : tree.rows.header.region ≡ l.settings.region = ap (λ (x : ImageRows). x.header.region) same ∙ sym load.settings.region in
    let next : tree.rows.header.next_tx ≡ l.next_tx = ap (λ (x : ImageRows). x.header.next_tx) same ∙ sym load.next_tx in
    let map : tree.map ≡ metadata_at l.kv l.kv.number =
    λ i q. same_optional (tree.map q) (metadata_at l.kv l.kv.number q)
    (tree.says q ∙ ap (λ (x : ImageRows). row_at x q) same ∙ sym (load.store.map q)) i in
    record {
      live = tree.live;
      is_live = subst (λ (w : Map). IsLiveMap l.settings.region told lost w tree.live) map
          (subst (λ b. IsLiveMap b told lost tree.map tree.live) region tree.is_live);
      stands = λ tx le. subst (λ b. Stands b told tx 0 tree.live t) region (tree.stands tx (subst (λ n. n ≤ tx) (sym next) le));
    }
