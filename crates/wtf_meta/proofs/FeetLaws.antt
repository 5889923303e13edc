-- Footprints, one after another.
use Rattle.std.proofs.Common.{◌≡◌, ◌⊎◌, ℕ, nat_lt, Bool, true, false, cond, ◌||◌, List, [], ◌∷◌, ◌++◌, Option, None, Some, is_some, refl, sym, subst, ◌∙◌, inl}
use Rattle.std.proofs.Common.{inr, ⊎_elim}
use Rattle.std.specs.List.{find}
use Rattle.std.proofs.lemmas.Bool.{and_parts}
use Rattle.wtf_base.specs.declared.ids.InodeId.{InodeId}
use Rattle.wtf_kv.specs.declared.changes.Change.{Change}
use Rattle.wtf_kv.specs.declared.changes.Change.TheVariants as change
use Rattle.wtf_kv.specs.Edits.{is_between, fits, first_unfit, after_change, touches, any_touches}
use Rattle.wtf_kv.specs.Stores.{Store, version_of}
use Rattle.wtf_kv.proofs.EditLaws.{over-append}
use Rattle.wtf_occ.specs.Attempts.{Attempted}
use Rattle.wtf_occ.specs.Tries.{or_else, first_moved, key_in_the_way}
use Rattle.wtf_model.specs.declared.item.Item.{Item}
use Rattle.wtf_model.specs.declared.item.Item.TheVariants.{NodeOf, NamesOf, BodyOf, LinksOf}
use Rattle.wtf_model.proofs.ItemLaws.{is_among-left, is_among-right}
use Rattle.wtf_values.specs.declared.key.Key.{Key}
use Rattle.wtf_values.specs.declared.key.Key.TheVariants.{Path, Dir, Inode, Region, Links}
use Rattle.wtf_values.specs.declared.value.Value.{Value}
use Rattle.wtf_values.specs.declared.value.Delta.{Delta}
use Rattle.wtf_values.specs.Keys.{key_cmp}
use Rattle.wtf_values.specs.Outcomes.{outcome_of}
use Rattle.wtf_values.proofs.KeyLaws.{at_same}
use Rattle.wtf_meta.specs.Maps.{Map, Edits, with, AllFit, metadata_at}
use Rattle.wtf_meta.specs.Trees.{LeadsTo}
use Rattle.wtf_meta.specs.Feet.{Has, BodyRead, LinksRead, FileRead, ReadBy, WrittenBy, EachRead, ChangeWritten, EachWritten, Comes, Feet}
use Rattle.wtf_meta.proofs.Steps.{step}

-- the key of the first change that finds no room
abbrev unfit_in : Edits → Map → Option Key
unfit_in cs m = first_unfit key_cmp outcome_of cs m

-- of two lists of changes it is of the first, or of the second over what the first makes
pub unfit-parts : (cs ds : Edits) (m : Map) (k : Key) → unfit_in (cs ++ ds) m ≡ Some k → (unfit_in cs m ≡ Some k) ⊎ (unfit_in ds (with cs m) ≡ Some k)
unfit-parts [] ds m k e = inr e
unfit-parts (change.Cut from to ∷ cs) ds m k e = unfit-parts cs ds (step (change.Cut from to) m) k e
unfit-parts (change.Delta key d ∷ cs) ds m k e =
    let next : Map = step (change.Delta key d) m in
    elim (fits (outcome_of (m key) d)) as (λ b. cond b (unfit_in (cs ++ ds) next) (Some key) ≡ Some k
    → (cond b (unfit_in cs next) (Some key) ≡ Some k) ⊎ (unfit_in ds (with cs next) ≡ Some k)) [
      | true ↦ λ rest. unfit-parts cs ds next k rest
      | false ↦ λ here. inl here
    ] e

-- changes that fit whatever they meet have none
pub unfit-none : (cs : Edits) (P : Key → Type 0) → ((m : Map) → AllFit cs m) → (m : Map) (k : Key) → unfit_in cs m ≡ Some k → P k
unfit-none cs P fit m k e = let bad : None ≡ Some k = sym (fit m) ∙ e in absurd (cc)

module _ (tx : ℕ) (old : Map) (R S : List Item) where
  body-left : (i : InodeId) → BodyRead old R i → BodyRead old (R ++ S) i
  body-left i h = record { path = h.path; leads = h.leads; body = is_among-left R S (BodyOf h.path) h.body }

  body-right : (i : InodeId) → BodyRead old S i → BodyRead old (R ++ S) i
  body-right i h = record { path = h.path; leads = h.leads; body = is_among-right R S (BodyOf h.path) h.body }

  links-left : (i : InodeId) → LinksRead old R i → LinksRead old (R ++ S) i
  links-left i h = record {
    path = h.path;
    leads = h.leads;
    node = is_among-left R S (NodeOf h.path) h.node;
    links = is_among-left R S (LinksOf h.path) h.links;
  }

  links-right : (i : InodeId) → LinksRead old S i → LinksRead old (R ++ S) i
  links-right i h = record {
    path = h.path;
    leads = h.leads;
    node = is_among-right R S (NodeOf h.path) h.node;
    links = is_among-right R S (LinksOf h.path) h.links;
  }

  file-left : (i : InodeId) → FileRead old R i → FileRead old (R ++ S) i
  file-left i h = record {
    path = h.path;
    leads = h.leads;
    node = is_among-left R S (NodeOf h.path) h.node;
    body = is_among-left R S (BodyOf h.path) h.body;
    links = is_among-left R S (LinksOf h.path) h.links;
  }

  file-right : (i : InodeId) → FileRead old S i → FileRead old (R ++ S) i
  file-right i h = record {
    path = h.path;
    leads = h.leads;
    node = is_among-right R S (NodeOf h.path) h.node;
    body = is_among-right R S (BodyOf h.path) h.body;
    links = is_among-right R S (LinksOf h.path) h.links;
  }

  -- what was read is among more
  pub ReadBy-left : (k : Key) → ReadBy tx old R k → ReadBy tx old (R ++ S) k
  ReadBy-left (Path p) h = is_among-left R S (NodeOf p) h
  ReadBy-left (Dir p) h = is_among-left R S (NamesOf p) h
  ReadBy-left (Inode i) (inl own) = inl own
  ReadBy-left (Inode i) (inr h) = inr (body-left i h)
  ReadBy-left (Region i r) (inl own) = inl own
  ReadBy-left (Region i r) (inr h) = inr (body-left i h)
  ReadBy-left (Links i) (inl own) = inl own
  ReadBy-left (Links i) (inr h) = inr (links-left i h)

  pub ReadBy-right : (k : Key) → ReadBy tx old S k → ReadBy tx old (R ++ S) k
  ReadBy-right (Path p) h = is_among-right R S (NodeOf p) h
  ReadBy-right (Dir p) h = is_among-right R S (NamesOf p) h
  ReadBy-right (Inode i) (inl own) = inl own
  ReadBy-right (Inode i) (inr h) = inr (body-right i h)
  ReadBy-right (Region i r) (inl own) = inl own
  ReadBy-right (Region i r) (inr h) = inr (body-right i h)
  ReadBy-right (Links i) (inl own) = inl own
  ReadBy-right (Links i) (inr h) = inr (links-right i h)

  pub EachRead-left : (ks : List Key) → EachRead tx old R ks → EachRead tx old (R ++ S) ks
  EachRead-left [] h = tt
  EachRead-left (k ∷ ks) h = (ReadBy-left k h.0, EachRead-left ks h.1)

  pub EachRead-right : (ks : List Key) → EachRead tx old S ks → EachRead tx old (R ++ S) ks
  EachRead-right [] h = tt
  EachRead-right (k ∷ ks) h = (ReadBy-right k h.0, EachRead-right ks h.1)

  WrittenBy-left : (k : Key) → WrittenBy old R k → WrittenBy old (R ++ S) k
  WrittenBy-left (Path p) h = is_among-left R S (NodeOf p) h
  WrittenBy-left (Dir p) h = is_among-left R S (NamesOf p) h
  WrittenBy-left (Inode i) h = λ q to. is_among-left R S (BodyOf q) (h q to)
  WrittenBy-left (Region i r) h = λ q to. is_among-left R S (BodyOf q) (h q to)
  WrittenBy-left (Links i) h = λ q to. ⊎_elim
      (λ node. inl (is_among-left R S (NodeOf q) node))
      (λ links. inr (is_among-left R S (LinksOf q) links))
      (h q to)

  ChangeWritten-left : (c : Change Key Delta) → ChangeWritten old R c → ChangeWritten old (R ++ S) c
  ChangeWritten-left (change.Delta k d) h = WrittenBy-left k h
  ChangeWritten-left (change.Cut from to) h = λ k within. WrittenBy-left k (h k within)

  EachWritten-left : (cs : Edits) → EachWritten old R cs → EachWritten old (R ++ S) cs
  EachWritten-left [] h = tt
  EachWritten-left (c ∷ cs) h = (ChangeWritten-left c h.0, EachWritten-left cs h.1)

-- keys, one list after another
pub EachRead-append : (tx : ℕ) (w : Map) (R : List Item) (ks ls : List Key) → EachRead tx w R ks → EachRead tx w R ls → EachRead tx w R (ks ++ ls)
EachRead-append tx w R [] ls front back = back
EachRead-append tx w R (k ∷ ks) ls front back = (front.0, EachRead-append tx w R ks ls front.1 back)

-- and changes
pub EachWritten-append : (w : Map) (W : List Item) (cs ds : Edits) → EachWritten w W cs → EachWritten w W ds → EachWritten w W (cs ++ ds)
EachWritten-append w W [] ds front back = back
EachWritten-append w W (c ∷ cs) ds front back = (front.0, EachWritten-append w W cs ds front.1 back)

-- where nothing was changed
pub feet_looked : (tx : ℕ) (w : Map) (ks : List Key) (R W : List Item) → EachRead tx w R ks → Feet tx w ks [] R W
feet_looked tx w ks R W read = record {
  read = read;
  unfit = unfit-none [] (ReadBy tx w R) (λ m. refl);
  written = tt;
  comes = λ p i to. inl to;
  stays = λ q i to. inl to;
}

module _ (tx : ℕ) (a : Map) (ks : List Key) (cs : Edits) (R W : List Item) (first : Feet tx a ks cs R W) (S V : List Item) where
  -- the map that the first leaves
  abbrev mid : Map
  mid = with cs a

  body_back : (i : InodeId) → BodyRead mid S i → (i.tx.0 ≡ tx) ⊎ BodyRead a (R ++ S) i
  body_back i h = ⊎_elim
      (λ stood. inr (record { path = h.path; leads = stood; body = is_among-right R S (BodyOf h.path) h.body }))
      (λ rest. ⊎_elim
      (λ own. inl own)
      (λ from. inr (record { path = from.path; leads = from.leads; body = is_among-left R S (BodyOf from.path) from.body }))
      rest)
      (first.comes h.path i h.leads)

  links_back : (i : InodeId) → LinksRead mid S i → (i.tx.0 ≡ tx) ⊎ LinksRead a (R ++ S) i
  links_back i h = ⊎_elim
      (λ stood. inr (links-right tx a R S i (record { path = h.path; leads = stood; node = h.node; links = h.links })))
      (λ rest. ⊎_elim
      (λ own. inl own)
      (λ from. inr (links-left tx a R S i (record { path = from.path; leads = from.leads; node = from.node; links = from.links })))
      rest)
      (first.comes h.path i h.leads)

  read_back : (k : Key) → ReadBy tx mid S k → ReadBy tx a (R ++ S) k
  read_back (Path p) h = is_among-right R S (NodeOf p) h
  read_back (Dir p) h = is_among-right R S (NamesOf p) h
  read_back (Inode i) (inl own) = inl own
  read_back (Inode i) (inr h) = body_back i h
  read_back (Region i r) (inl own) = inl own
  read_back (Region i r) (inr h) = body_back i h
  read_back (Links i) (inl own) = inl own
  read_back (Links i) (inr h) = links_back i h

  each_read_back : (ls : List Key) → EachRead tx mid S ls → EachRead tx a (R ++ S) ls
  each_read_back [] h = tt
  each_read_back (k ∷ ls) h = (read_back k h.0, each_read_back ls h.1)

  body_on : (i : InodeId) → ((q : List ℕ) → LeadsTo mid q i → Has (BodyOf q) V) → (q : List ℕ) → LeadsTo a q i → Has (BodyOf q) (W ++ V)
  body_on i h q to = ⊎_elim (λ still. is_among-right W V (BodyOf q) (h q still)) (λ gone. is_among-left W V (BodyOf q) gone.1) (first.stays q i to)

  links_on : (i : InodeId) → ((q : List ℕ) → LeadsTo mid q i → Has (NodeOf q) V ⊎ Has (LinksOf q) V) → (q : List ℕ) → LeadsTo a q i
      → Has (NodeOf q) (W ++ V) ⊎ Has (LinksOf q) (W ++ V)
  links_on i h q to = ⊎_elim
      (λ still. ⊎_elim
      (λ node. inl (is_among-right W V (NodeOf q) node))
      (λ links. inr (is_among-right W V (LinksOf q) links))
      (h q still))
      (λ gone. inl (is_among-left W V (NodeOf q) gone.0))
      (first.stays q i to)

  written_back : (k : Key) → WrittenBy mid V k → WrittenBy a (W ++ V) k
  written_back (Path p) h = is_among-right W V (NodeOf p) h
  written_back (Dir p) h = is_among-right W V (NamesOf p) h
  written_back (Inode i) h = body_on i h
  written_back (Region i r) h = body_on i h
  written_back (Links i) h = links_on i h

  change_back : (c : Change Key Delta) → ChangeWritten mid V c → ChangeWritten a (W ++ V) c
  change_back (change.Delta k d) h = written_back k h
  change_back (change.Cut from to) h = λ k within. written_back k (h k within)

  each_written_back : (ds : Edits) → EachWritten mid V ds → EachWritten a (W ++ V) ds
  each_written_back [] h = tt
  each_written_back (d ∷ ds) h = (change_back d h.0, each_written_back ds h.1)

  -- a file that the second found at a path
  come_back : (p : List ℕ) (i : InodeId) → Comes tx mid S p i → Comes tx a (R ++ S) p i
  come_back p i (inl to) = ⊎_elim
      (λ stood. inl stood)
      (λ rest. inr (⊎_elim (λ own. inl own) (λ from. inr (file-left tx a R S i from)) rest))
      (first.comes p i to)
  come_back p i (inr (inl own)) = inr (inl own)
  come_back p i (inr (inr h)) = ⊎_elim
      (λ stood. inr (inr (file-right tx a R S i (record { path = h.path; leads = stood; node = h.node; body = h.body; links = h.links }))))
      (λ rest. inr (⊎_elim (λ own. inl own) (λ from. inr (file-left tx a R S i from)) rest))
      (first.comes h.path i h.leads)

  -- one after the other
  pub feet_on : (ls : List Key) (ds : Edits) → Feet tx mid ls ds S V → Feet tx a (ks ++ ls) (cs ++ ds) (R ++ S) (W ++ V)
  feet_on ls ds then =
      let map : with (cs ++ ds) a ≡ with ds mid = over-append key_cmp outcome_of cs ds a in
      record {
        read = EachRead-append tx a (R ++ S) ks ls (EachRead-left tx a R S ks first.read) (each_read_back ls then.read);
        unfit = λ m k e. ⊎_elim
            (λ here. ReadBy-left tx a R S k (first.unfit m k here))
            (λ later. read_back k (then.unfit (with cs m) k later))
            (unfit-parts cs ds m k e);
        written = EachWritten-append a (W ++ V) cs ds (EachWritten-left tx a W V cs first.written) (each_written_back ds then.written);
        comes = λ p i to. come_back p i (then.comes p i (subst (λ m. LeadsTo m p i) map to));
        stays = λ q i to. ⊎_elim
            (λ still. ⊎_elim
            (λ there. inl (subst (λ m. LeadsTo m q i) (sym map) there))
            (λ gone. inr (is_among-right W V (NodeOf q) gone.0, is_among-right W V (BodyOf q) gone.1))
            (then.stays q i still))
            (λ gone. inr (is_among-left W V (NodeOf q) gone.0, is_among-left W V (BodyOf q) gone.1))
            (first.stays q i to);
      }

-- ---- what footprints tell of an install

module _ (tx : ℕ) (w : Map) (R : List Item) where
  read_found : (f : Key → Bool) (ks : List Key) (k : Key) → EachRead tx w R ks → find f ks ≡ Some k → ReadBy tx w R k
  read_found f [] k each e = let bad : None ≡ Some k = e in absurd (cc)
  read_found f (q ∷ ks) k each e = elim (f q) as (λ b. cond b (Some q) (find f ks) ≡ Some k → ReadBy tx w R k) [
    | true ↦ λ here. let same : q ≡ k = cc in subst (ReadBy tx w R) same each.0
    | false ↦ λ later. read_found f ks k each.1 later
  ] e

  -- the key that is in its way belongs to an item that was read
  pub read_in_the_way : (W : List Item) (at : Attempted Key Delta) (kv : Store Key Value) (k : Key) → Feet tx w at.reads at.changes R W
      → key_in_the_way key_cmp outcome_of at kv ≡ Some k → ReadBy tx w R k
  read_in_the_way W at kv k feet e =
      elim (first_moved key_cmp at.base at.reads kv) as (λ o. first_moved key_cmp at.base at.reads kv ≡ o
      → or_else o (unfit_in at.changes (metadata_at kv kv.number)) ≡ Some k
      → ReadBy tx w R k) [
        | None ↦ λ none unfit. feet.unfit (metadata_at kv kv.number) k unfit
        | Some q ↦ λ moved here. read_found (λ key. nat_lt at.base (version_of key_cmp kv kv.number key)) at.reads k feet.read (moved ∙ here)
      ] refl e

module _ (w : Map) (W : List Item) where
  touched_written : (c : Change Key Delta) (k : Key) (v : Option Value) → ChangeWritten w W c → touches key_cmp outcome_of c k v ≡ true → WrittenBy w W k
  touched_written (change.Delta q d) k v written e = subst (WrittenBy w W) (at_same q k e) written
  touched_written (change.Cut from to) k v written e = written k (and_parts (is_between key_cmp from to k) (is_some v) e).0

  -- each key that it touches belongs to an item that was written
  pub written_at : (cs : Edits) (k : Key) (v : Option Value) → EachWritten w W cs → any_touches key_cmp outcome_of cs k v ≡ true → WrittenBy w W k
  written_at [] k v each e = absurd (cc)
  written_at (c ∷ cs) k v each e =
      let next : Option Value = after_change key_cmp outcome_of c k v in
      elim (touches key_cmp outcome_of c k v) as (λ b. touches key_cmp outcome_of c k v ≡ b → (b || any_touches key_cmp outcome_of cs k next) ≡ true
      → WrittenBy w W k) [
        | true ↦ λ here rest. touched_written c k v each.0 here
        | false ↦ λ none rest. written_at cs k next each.1 rest
      ] refl e
