-- A run that is not opened.
use Rattle.std.proofs.Common.{◌≡◌, ℕ, List, [], Some, refl, sym, ◌∙◌, subst, inl, inr}
use Rattle.wtf_base.specs.declared.settings.Settings.{Settings}
use Rattle.wtf_dev.specs.Keep.{KeeperView}
use Rattle.wtf_dev.specs.Store.{StoreKind, KindLaws}
use Rattle.wtf_dev.specs.Streams.{SourceView, SinkView}
use Rattle.wtf_image.specs.declared.error.LoadError.TheVariants as error
use Rattle.wtf_serve.specs.declared.opening.NotOpened.{NotOpened}
use Rattle.wtf_serve.specs.declared.opening.NotOpened.TheVariants.{Few, Image}
use Rattle.wtf_serve.specs.Beginnings.{IsUnopenedBy, EndsBy}
use Rattle.wtf_serve.specs.Endings.{devices, IsKeeperKept}
use Rattle.wtf_serve.specs.Stocks.{stock, KeeperGoesOn}
use Rattle.wtf_serve.specs.Unopened.{IsRunWith, IsWhy}
use Rattle.wtf_serve.proofs.Serving.{spares_still, opened_by}
use Rattle.wtf_serve.proofs.Sparing.{spared_none}
use Rattle.wtf_serve.proofs.Unstarted.{refused, refused_log, refused_mid}

module _ {S : Type 0} (kind : StoreKind S) (laws : KindLaws kind) (handed : List (List ℕ) → Type 0) (asked : Settings) (shelf : List S) (k k' : KeeperView)
    (kept : IsKeeperKept handed k k') (keeper : KeeperGoesOn k k') (source : SourceView) (out : SinkView) where
  -- for a reason
  pub for_reason : (status : ℕ) (out' : SinkView) → IsWhy kind status (devices source out shelf k) (devices source out' shelf k')
      → IsRunWith kind handed asked status (devices source out shelf k) (devices source out' shelf k')
  for_reason status out' why = inl (record { why = why; source_is = refl; shelf_is = refl; kept = kept })

  -- by what the keeper gave
  module _ (bytes : List ℕ) (given : (held : List ℕ) → k.held ≡ Some held → bytes ≡ held) where
    pub not_opened : (why : NotOpened) (status : ℕ) (out' : SinkView) → IsUnopenedBy kind asked bytes shelf why → EndsBy why status out out'
        → IsRunWith kind handed asked status (devices source out shelf k) (devices source out' shelf k')
    not_opened Few status out' few (is_2, same) =
        subst (λ (n : ℕ). IsRunWith kind handed asked n (devices source out shelf k) (devices source out' shelf k')) (sym is_2)
        (subst (λ (s : SinkView). IsRunWith kind handed asked 2 (devices source out shelf k) (devices source s shelf k')) (sym same)
        (inr (opened_by kind handed asked few.opening (devices source out shelf k) (devices source out shelf k') few.opens
        (λ held e. few.bytes_are ∙ given held e) (record { lines = []; answers = [] }) (stock shelf k') 2 (
          refused kind laws handed few.opening (devices source out shelf k) k' kept keeper few.few,
          refused_log kind laws handed few.opening (devices source out shelf k) k' kept keeper few.few,
          refused_mid kind laws handed few.opening (devices source out shelf k) k' kept keeper few.few,
        )
        (spares_still kind handed (record { lines = []; answers = [] }) shelf (devices source out shelf k) (devices source out shelf k')
        (spared_none kind handed shelf kept.nothing) 2 (inl refl) refl) (λ s d there. refl))))
    not_opened (Image error.Memory) status out' cause (is_7, same) = for_reason status out' (inl (is_7, same))
    not_opened (Image error.NotAnImage) status out' cause told = for_reason status out'
        (inr (inr (record { bytes = bytes; given = given; why = error.NotAnImage; refused = cause; told = told })))
    not_opened (Image error.BadSettings) status out' cause told = for_reason status out'
        (inr (inr (record { bytes = bytes; given = given; why = error.BadSettings; refused = cause; told = told })))
    not_opened (Image error.BadTree) status out' cause told = for_reason status out'
        (inr (inr (record { bytes = bytes; given = given; why = error.BadTree; refused = cause; told = told })))
    not_opened (Image error.PointerOutside) status out' cause told =
        for_reason status out' (inr (inr (record { bytes = bytes; given = given; why = error.PointerOutside; refused = cause; told = told })))
