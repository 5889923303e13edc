-- What a run leaves on its keeper, by what that holds at its end.
use Rattle.std.proofs.Common.{◌≡◌, ℕ, List, [], ◌∷◌, ◌++◌, Option, Some, arith, inl, inr}
use Rattle.wtf_dev.specs.Keep.{KeeperView}
use Rattle.wtf_dev.specs.Store.{StoreKind}
use Rattle.wtf_replica.specs.Bytes.{byte_at}
use Rattle.wtf_model.specs.declared.answer.Answer.{Answer}
use Rattle.wtf_model.specs.Lines.{MayLine, after_line}
use Rattle.wtf_model.specs.Machines.{Machine}
use Rattle.wtf_model.specs.Tree.{Tree}
use Rattle.wtf_meta.specs.Contents.{Told}
use Rattle.wtf_core.specs.Pictured.{HoldsTree}
use Rattle.wtf_core.specs.Telling.{stores_of}
use Rattle.wtf_core.proofs.FirstStores.{kept_within}
use Rattle.wtf_serve.specs.Cores as cores
use Rattle.wtf_serve.specs.Endings.{IsEarlyStatus, IsNextLine, IsLeft}
use Rattle.wtf_serve.specs.Engines.{Engine}
use Rattle.wtf_serve.specs.Scripts.{line_of, IsEndStatus}
use Rattle.wtf_serve.specs.Stocks.{Stock, HoldsOneOf}
use Rattle.wtf_serve.proofs.Picturing.{image_held, one_alone}

-- what is kept for a state whose bytes all lie inside the stores, on servers of the settings, stands over the stores of these by themselves
abbrev pub KeepsWithin : {S State : Type 0} → Engine S State → Type 0
KeepsWithin {S} {State} engine = (s : Stock S) (state : State) (m : Machine) (may : List Tree) → engine.sound s.shelf state → engine.stands s.shelf state m
    → engine.within s.shelf state → engine.kept s.keeper state → HoldsOneOf engine.kind s may
    → HoldsTree s.keeper (byte_at engine.kind (stores_of (engine.settings state) s.shelf)) may

-- so it is of a core
pub core_keeps : {S : Type 0} (kind : StoreKind S) → KeepsWithin (cores.engine kind)
core_keeps kind s core m may sound stands within kept held = kept_within kind s.shelf core sound.tables within m s.keeper may stands kept held

-- ---- over what is told, by the status

module _ (told : Told) (m : Machine) (script : Option (List ℕ)) (lines : List (List ℕ)) (k : KeeperView) (bytes : List ℕ) (held : k.held ≡ Some bytes) where
  pub left_saved : (status : ℕ) → IsEndStatus status → (bytes ≡ [] → ⊥) → HoldsTree k told (m.now ∷ []) → IsLeft told m script lines status bytes
  left_saved status end some is = record {
    saved = λ _. one_alone told bytes m.now some (image_held told k bytes (m.now ∷ []) is held);
    failed = λ e. absurd (omega (arith, e, end));
    early = λ e. absurd (omega (arith, e, end));
    memory = λ e. absurd (omega (arith, e, end));
  }

  pub left_failed : HoldsTree k told (m.may_be_saved ++ m.now ∷ []) → IsLeft told m script lines 5 bytes
  left_failed is = record {
    saved = λ e. absurd (omega (arith, e));
    failed = λ _. image_held told k bytes (m.may_be_saved ++ m.now ∷ []) is held;
    early = λ e. absurd (omega (arith, e));
    memory = λ e. absurd (omega (arith, e));
  }

  pub left_early : (status : ℕ) → IsEarlyStatus status → HoldsTree k told m.may_be_saved → IsLeft told m script lines status bytes
  left_early status early is = record {
    saved = λ e. absurd (omega (arith, e, early));
    failed = λ e. absurd (omega (arith, e, early));
    early = λ _. image_held told k bytes m.may_be_saved is held;
    memory = λ e. absurd (omega (arith, e, early));
  }

  pub left_short : HoldsTree k told m.may_be_saved → IsLeft told m script lines 7 bytes
  left_short is = record {
    saved = λ e. absurd (omega (arith, e));
    failed = λ e. absurd (omega (arith, e));
    early = λ e. absurd (omega (arith, e));
    memory = λ _. inl (image_held told k bytes m.may_be_saved is held);
  }

  -- behind one line more
  pub left_out : (line : List ℕ) → IsNextLine script lines line → (a : Answer) → MayLine m (line_of line) a
      → HoldsTree k told (after_line m (line_of line) a).may_be_saved → IsLeft told m script lines 7 bytes
  left_out line next a may is = record {
    saved = λ e. absurd (omega (arith, e));
    failed = λ e. absurd (omega (arith, e));
    early = λ e. absurd (omega (arith, e));
    memory = λ _. inr (record {
      line = line;
      next = next;
      answer = a;
      may = may;
      image = image_held told k bytes (after_line m (line_of line) a).may_be_saved is held;
    });
  }
