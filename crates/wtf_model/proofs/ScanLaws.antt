-- The worked examples of the lines of scans and collections.
use Rattle.std.proofs.Common.{◌≡◌, ◌⊎◌, ◌≤◌, ◌<◌, ℕ, ◌+◌, ◌-◌, ◌==◌, ◌||◌, cond, Bool, true, false, is_some, nat_lt, if◌then◌else◌, List, [], ◌∷◌, ◌++◌, map, length, Option, Some, None, refl, sym, ap, subst, ◌∙◌, inl, inr, arith}
use Rattle.std.specs.Option.{MatchOption}
use Rattle.std.specs.List.{list_any, filter}
use Rattle.std.proofs.lemmas.Bool.{lt-ltb, le-ltb, eq-eqb}
use Rattle.std.specs.FinMap.{FinMap, entries, get, insert, remove, empty, get-insert, get-empty, get-remove, entries-insert, len-entries, len-empty, same_map, nat_cmp-IsAntisymmetric}
use Rattle.std.specs.FinMap.Entries.{put}
use Rattle.std.specs.Cmp.{nat_cmp_total}
use Rattle.std.specs.Ordering.{nat_cmp, eq_by_cmp}
use Rattle.wtf_base.specs.declared.settings.Settings.{Settings}
use Rattle.wtf_model.specs.declared.answer.Answer.{Answer, Aborted'}
use Rattle.wtf_model.specs.declared.answer.Answer.TheVariants as answer
use Rattle.wtf_model.specs.declared.answer.Word.{Word}
use Rattle.wtf_model.specs.declared.answer.Word.TheVariants as word
use Rattle.wtf_model.specs.declared.event.Holder.{Holder}
use Rattle.wtf_model.specs.declared.event.Holder.TheVariants as holder
use Rattle.wtf_model.specs.declared.event.Verb.{Verb}
use Rattle.wtf_model.specs.declared.event.Verb.TheVariants as verb
use Rattle.wtf_model.specs.declared.event.Event.{Event}
use Rattle.wtf_model.specs.declared.event.Event.TheVariants as event
use Rattle.wtf_model.specs.Transaction.{Transaction, Job, answers_from}
use Rattle.wtf_model.specs.Scans.{open_stamps, first_begun, lowest, client_or_job, held_by, or_held, scan_answer, piece_answer, MayFailPiece, collect_refusal, MayCollect}
use Rattle.wtf_model.specs.Lawful.{May}
use Rattle.wtf_model.specs.Steps.{Machine, after, after_client, is_down, is_logged, logged, with_transaction, begun, ended, installed}
use Rattle.wtf_model.specs.Examples.{Only, Runs, IsAtRest, IsAlone, asks, first_transaction, quiet_events, held_events, pieces_events}
use Rattle.wtf_model.proofs.Laws.{get-number_same}
use Rattle.wtf_model.proofs.StepLaws.{after-client}
use Rattle.wtf_model.proofs.MachineExamples.{to_may, asked, live_try}

-- what stands in small maps

no_entries : {A : Type 0} (l : List A) → length l ≡ 0 → l ≡ []
no_entries [] e = refl
no_entries (x ∷ l) e = absurd (omega arith)

pub none_in : {X : Type 0} → entries (empty {X = X} {R = nat_cmp}) ≡ []
none_in {X} = no_entries (entries (empty {X = X} {R = nat_cmp})) (sym (len-entries (empty {X = X} {R = nat_cmp})) ∙ len-empty nat_cmp X)

pub one_in : {X : Type 0} (k : ℕ) (v : X) → entries (insert (empty {R = nat_cmp}) k v) ≡ (k, v) ∷ []
one_in k v = entries-insert nat_cmp_total empty k v ∙ ap (put nat_cmp k v) none_in

pub two_in : {X : Type 0} (j k : ℕ) (v w : X) → entries (insert (insert (empty {R = nat_cmp}) j v) k w) ≡ put nat_cmp k w ((j, v) ∷ [])
two_in j k v w = entries-insert nat_cmp_total (insert empty j v) k w ∙ ap (put nat_cmp k w) (one_in j v)

-- what holds a scan back, by what is open and by what was when the last one began

abbrev pub held_of : List (ℕ × Transaction) → List (ℕ × Job) → List ℕ → Option Holder
held_of ts js stamps =
    client_or_job (first_begun (filter (λ t. list_any (λ s. s == t.1.stamp) stamps) ts))
    (lowest (filter (λ j. list_any (λ s. s == j.1.stamp) stamps) js))

pub held_by-is : (m : Machine) (ts : List (ℕ × Transaction)) (js : List (ℕ × Job)) (stamps : List ℕ) → entries m.transactions ≡ ts → entries m.jobs ≡ js → m.scan_list ≡ stamps
    → held_by m ≡ held_of ts js stamps
held_by-is m ts js stamps open_ones jobs noted =
    ap (λ l. held_of (entries m.transactions) (entries m.jobs) l) noted ∙ ap (λ l. held_of l (entries m.jobs) stamps) open_ones ∙ ap (λ l. held_of ts l stamps) jobs

pub open_stamps-is : (m : Machine) (ts : List (ℕ × Transaction)) (js : List (ℕ × Job)) → entries m.transactions ≡ ts → entries m.jobs ≡ js
    → open_stamps m ≡ map (λ t. t.1.stamp) ts ++ map (λ j. j.1.stamp) js
open_stamps-is m ts js open_ones jobs =
    ap (λ l. map (λ (t : Transaction). t.stamp) (map (λ e. e.1) l) ++ map (λ (j : Job). j.stamp) (map (λ e. e.1) (entries m.jobs))) open_ones
    ∙ ap (λ l. map (λ (t : Transaction). t.stamp) (map (λ e. e.1) ts) ++ map (λ (j : Job). j.stamp) (map (λ e. e.1) l)) jobs
    ∙ ap (λ l. l ++ map (λ (j : Job). j.stamp) (map (λ e. e.1) js)) (stamps_of_transactions ts) ∙ ap (λ l. map (λ t. t.1.stamp) ts ++ l) (stamps_of_jobs js)
  where
    stamps_of_transactions : (l : List (ℕ × Transaction)) → map (λ (t : Transaction). t.stamp) (map (λ e. e.1) l) ≡ map (λ t. t.1.stamp) l
    stamps_of_transactions [] = refl
    stamps_of_transactions (t ∷ l) = ap (λ r. t.1.stamp ∷ r) (stamps_of_transactions l)

    stamps_of_jobs : (l : List (ℕ × Job)) → map (λ (j : Job). j.stamp) (map (λ e. e.1) l) ≡ map (λ j. j.1.stamp) l
    stamps_of_jobs [] = refl
    stamps_of_jobs (j ∷ l) = ap (λ r. j.1.stamp ∷ r) (stamps_of_jobs l)

pub scan_due : (m : Machine) (o : Option Holder) → m.parts_left ≡ None → held_by m ≡ o → scan_answer m ≡ or_held o
scan_due m o free is = ap (λ l. if is_some l then answer.Refused word.ScanBusy else or_held (held_by m)) free ∙ ap or_held is

pub scan_busy : (m : Machine) (left : ℕ) → m.parts_left ≡ Some left → scan_answer m ≡ answer.Refused word.ScanBusy
scan_busy m left busy = ap (λ l. if is_some l then answer.Refused word.ScanBusy else or_held (held_by m)) busy

pub only_scan : (m : Machine) (a : Answer) → scan_answer m ≡ a → Only m event.Scan a
only_scan m a is b = (λ e. e ∙ is, λ e. e ∙ sym is)

pub held_scan : (m : Machine) (ts : List (ℕ × Transaction)) (js : List (ℕ × Job)) (stamps : List ℕ) → m.parts_left ≡ None → entries m.transactions ≡ ts → entries m.jobs ≡ js
    → m.scan_list ≡ stamps → scan_answer m ≡ or_held (held_of ts js stamps)
held_scan m ts js stamps free open_ones jobs noted = scan_due m (held_of ts js stamps) free (held_by-is m ts js stamps open_ones jobs noted)

-- where nothing is open, nothing holds a scan back
pub scan_at_rest : (m : Machine) → m.parts_left ≡ None → entries m.transactions ≡ [] → entries m.jobs ≡ [] → scan_answer m ≡ answer.Scanning
unfolding first_begun
scan_at_rest m free open_ones jobs = held_scan m [] [] m.scan_list free open_ones jobs refl

-- parts of a scan

pub piece_due : (m : Machine) (k : ℕ) (o : Option ℕ) (a : Answer) → m.parts_left ≡ o → piece_answer k o ≡ a → piece_answer k m.parts_left ≡ a
piece_due m k o a there is = ap (piece_answer k) there ∙ is

pub piece_more : (k left : ℕ) → k < left → piece_answer k (Some left) ≡ answer.More (left - k)
piece_more k left less = ap (λ b. if b then answer.More (left - k) else answer.Done) (lt-ltb k left less)

pub piece_done : (k left : ℕ) → left ≤ k → piece_answer k (Some left) ≡ answer.Done
piece_done k left all = ap (λ b. if b then answer.More (left - k) else answer.Done) (le-ltb k left all)

no_fault : (servers : ℕ) (d a : Answer) → MayFailPiece servers d a → (a ≡ answer.Done → ⊥) × ((n : ℕ) → a ≡ answer.More n → ⊥)
no_fault servers (answer.More left) (answer.FaultRead k) h = (λ e. cc, λ n e. cc)
no_fault servers (answer.More left) (answer.Damaged k) h = (λ e. cc, λ n e. cc)
no_fault servers (answer.More left) a h = absurd h
no_fault servers answer.Done (answer.FaultRead k) h = (λ e. cc, λ n e. cc)
no_fault servers answer.Done (answer.Damaged k) h = (λ e. cc, λ n e. cc)
no_fault servers answer.Done a h = absurd h
no_fault servers d a h = absurd h

-- an answer that tells of parts is the one that is due
pub piece_is : (m : Machine) (k : ℕ) (a : Answer) → (a ≡ answer.Done) ⊎ ((n : ℕ) × (a ≡ answer.More n)) → May m (event.Piece k) a → a ≡ piece_answer k m.parts_left
piece_is m k a told (inl is) = is
piece_is m k a (inl done) (inr fails) = absurd ((no_fault m.settings.servers (piece_answer k m.parts_left) a fails).0 done)
piece_is m k a (inr more) (inr fails) = absurd ((no_fault m.settings.servers (piece_answer k m.parts_left) a fails).1 more.0 more.1)

same_more : (n k : ℕ) → answer.More n ≡ answer.More k → n ≡ k
same_more n k e = cc

pub more_is : (m : Machine) (k left n : ℕ) → m.parts_left ≡ Some left → k < left → May m (event.Piece k) (answer.More n) → n ≡ left - k
more_is m k left n there less h = same_more n (left - k) (piece_is m k (answer.More n) (inr (n, refl)) h ∙ piece_due m k (Some left) _ there (piece_more k left less))

more_not_done : (n : ℕ) → answer.Done ≡ answer.More n → ⊥
more_not_done n e = cc

pub not_done : (m : Machine) (k left : ℕ) → m.parts_left ≡ Some left → k < left → May m (event.Piece k) answer.Done → ⊥
not_done m k left there less h = more_not_done (left - k) (piece_is m k answer.Done (inl refl) h ∙ piece_due m k (Some left) _ there (piece_more k left less))

pub no_more : (m : Machine) (k left n : ℕ) → m.parts_left ≡ Some left → left ≤ k → May m (event.Piece k) (answer.More n) → ⊥
no_more m k left n there all h = more_not_done n (sym (piece_is m k (answer.More n) (inr (n, refl)) h ∙ piece_due m k (Some left) _ there (piece_done k left all)))

refused_piece : (servers : ℕ) (w : Word) (a : Answer) → MayFailPiece servers (answer.Refused w) a → ⊥
refused_piece servers w a h = h

pub only_no_scan : (m : Machine) (k : ℕ) → m.parts_left ≡ None → Only m (event.Piece k) (answer.Refused word.NoScan)
only_no_scan m k none b = (
  λ h. elim h [
    | inl e ↦ e ∙ ap (piece_answer k) none
    | inr fails ↦ absurd (refused_piece m.settings.servers word.NoScan b (subst (λ o. MayFailPiece m.settings.servers (piece_answer k o) b) none fails))
  ],
  λ e. inl (e ∙ sym (ap (piece_answer k) none)),
)

fails_by : (servers k : ℕ) (b : Bool) (left : ℕ) → k < servers → MayFailPiece servers (if b then answer.More left else answer.Done) (answer.FaultRead k)
fails_by servers k true left below = below
fails_by servers k false left below = below

pub piece_fails : (m : Machine) (k left server : ℕ) → m.parts_left ≡ Some left → server < m.settings.servers → May m (event.Piece k) (answer.FaultRead server)
piece_fails m k left server there below =
    inr (subst (λ o. MayFailPiece m.settings.servers (piece_answer k o) (answer.FaultRead server)) (sym there) (fails_by m.settings.servers server (nat_lt k left) (left - k) below))

-- clients' lines leave the parts

client_leaves : (m : Machine) (c : ℕ) (o : Option Transaction) (v : Verb) (a : Answer) → (after_client m c o v a).parts_left ≡ m.parts_left
client_leaves m c None verb.Begin (answer.Begun n) = refl
client_leaves m c None verb.Begin a = refl
client_leaves m c (Some t) verb.Try (answer.Committed n) = refl
client_leaves m c (Some t) verb.Try (answer.Retry base now) = refl
client_leaves m c (Some t) verb.Try a = refl
client_leaves m c (Some t) verb.Step (answer.Replayed i) = refl
client_leaves m c (Some t) verb.Step (Aborted' i box a) = refl
client_leaves m c (Some t) verb.Step a = refl
client_leaves m c (Some t) verb.Commit (answer.Committed n) = refl
client_leaves m c (Some t) verb.Commit (Aborted' i box a) = refl
client_leaves m c (Some t) verb.Commit a = refl
client_leaves m c (Some t) verb.Abort answer.Okay = refl
client_leaves m c (Some t) verb.Abort a = refl
client_leaves m c (Some t) (verb.Call o) a = elim (is_logged a) as (λ b. (if b then with_transaction m c (logged t o a) else m).parts_left ≡ m.parts_left) [ true ↦ refl | false ↦ refl ]
client_leaves m c o v a = refl

pub parts-client : (m : Machine) (c : ℕ) (v : Verb) (a : Answer) → (after m (event.Client c v) a).parts_left ≡ m.parts_left
parts-client m c v a = client_leaves m c (get m.transactions c) v a

-- collections

pub collect_unknown : (m : Machine) (k : ℕ) → m.settings.servers ≤ k → collect_refusal m k ≡ Some word.NoServer
collect_unknown m k past = ap (λ b. if b then (if nat_lt m.scans 2 then Some word.NoScan else None) else Some word.NoServer) (le-ltb k m.settings.servers past)

pub collect_early : (m : Machine) (k : ℕ) → k < m.settings.servers → m.scans < 2 → collect_refusal m k ≡ Some word.NoScan
collect_early m k below few =
    ap (λ b. if b then (if nat_lt m.scans 2 then Some word.NoScan else None) else Some word.NoServer) (lt-ltb k m.settings.servers below)
    ∙ ap (λ b. if b then Some word.NoScan else None) (lt-ltb m.scans 2 few)

pub collect_ready : (m : Machine) (k : ℕ) → k < m.settings.servers → 2 ≤ m.scans → collect_refusal m k ≡ None
collect_ready m k below enough =
    ap (λ b. if b then (if nat_lt m.scans 2 then Some word.NoScan else None) else Some word.NoServer) (lt-ltb k m.settings.servers below)
    ∙ ap (λ b. if b then Some word.NoScan else None) (le-ltb m.scans 2 enough)

pub only_refused_collect : (m : Machine) (k : ℕ) (w : Word) → collect_refusal m k ≡ Some w → Only m (event.Collect k) (answer.Refused w)
only_refused_collect m k w is a = (
  λ h. subst (λ r. MatchOption r (MayCollect k a) (λ x. a ≡ answer.Refused x)) is h,
  λ h. subst (λ r. MatchOption r (MayCollect k a) (λ x. a ≡ answer.Refused x)) (sym is) h,
)

pub may_collect : (m : Machine) (k : ℕ) (a : Answer) → k < m.settings.servers → 2 ≤ m.scans → MayCollect k a → May m (event.Collect k) a
may_collect m k a below enough h = subst (λ r. MatchOption r (MayCollect k a) (λ x. a ≡ answer.Refused x)) (sym (collect_ready m k below enough)) h

pub collect_may : (m : Machine) (k : ℕ) (a : Answer) → k < m.settings.servers → 2 ≤ m.scans → May m (event.Collect k) a → MayCollect k a
collect_may m k a below enough h = subst (λ r. MatchOption r (MayCollect k a) (λ x. a ≡ answer.Refused x)) (collect_ready m k below enough) h

-- runs

one_server : (settings : Settings) → 0 < settings.servers
one_server settings = settings.limits.0

all_done : piece_answer 64 (Some 64) ≡ answer.Done
all_done = piece_done 64 64 (omega arith)

abbrev scanning_now : Machine → Machine
scanning_now m = after m event.Scan answer.Scanning

abbrev scanned_now : Machine → Machine
scanned_now m = after (scanning_now m) (event.Piece 64) answer.Done

pub quiet : (m : Machine) (n : ℕ) → IsAtRest m → ((k : ℕ) → k < m.settings.servers → is_down m k ≡ false) → Runs m (quiet_events m.number n)
unfolding Runs
quiet m n rest up =
    let open_ones : entries m.transactions ≡ [] = ap (λ x. entries x) rest.open_ones ∙ none_in in
    let jobs : entries m.jobs ≡ [] = ap (λ x. entries x) rest.jobs ∙ none_in in
    let m1 : Machine = after m event.Save answer.FaultSave in
    let m2 : Machine = after m1 event.Save (answer.Saved m.number) in
    let m3 : Machine = scanned_now m2 in
    let m4 : Machine = scanned_now m3 in
    let enough : 2 ≤ m4.scans = omega arith in
    let one : 0 < m.settings.servers = one_server m.settings in (
      tt,
      (
        (refl, up),
        (
          sym (scan_at_rest m2 rest.parts open_ones jobs),
          (
            inl (sym all_done),
            (
              sym (scan_at_rest m3 refl open_ones jobs),
              (
                inl (sym all_done),
                (
                  may_collect m4 0 (answer.Collected n) one enough tt,
                  (
                    may_collect m4 0 (answer.Collected 0) one enough tt,
                    tt,
                  ),
                ),
              ),
            ),
          ),
        ),
      ),
    )

hidden : (b : Bool) (t : Transaction) (o : Option Transaction) → o ≡ None → cond b None (cond b (Some t) o) ≡ None
hidden true t o e = refl
hidden false t o e = e

none_left : (t : Transaction) → remove (insert (empty {R = nat_cmp}) 0 t) 0 ≡ empty
none_left t =
    let none : FinMap nat_cmp Transaction = empty in
    same_map nat_cmp_total nat_cmp-IsAntisymmetric _ _ (λ q.
    get-remove nat_cmp_total (insert none 0 t) 0 q ∙ ap (cond (eq_by_cmp nat_cmp q 0) None) (get-insert nat_cmp_total none 0 t q)
    ∙ hidden (eq_by_cmp nat_cmp q 0) t (get none q) (get-empty nat_cmp q) ∙ sym (get-empty nat_cmp q))

held : (t : Transaction) → or_held (held_of ((0, t) ∷ []) [] (t.stamp ∷ [])) ≡ answer.Held (holder.Client 0)
unfolding first_begun
held t = ap (λ b. or_held (client_or_job (first_begun (cond (b || false) ((0, t) ∷ []) [])) None)) (eq-eqb t.stamp t.stamp refl)

pub held_up : (m : Machine) (t : Transaction) → IsAlone m t → Runs m held_events
unfolding Runs first_begun
held_up m t alone =
    let open_ones : entries m.transactions ≡ (0, t) ∷ [] = ap (λ x. entries x) alone.open_ones ∙ one_in 0 t in
    let jobs : entries m.jobs ≡ [] = ap (λ x. entries x) alone.jobs ∙ none_in in
    let here : get m.transactions 0 ≡ Some t = ap (λ x. get x 0) alone.open_ones ∙ get-number_same empty 0 t in
    let m1 : Machine = scanned_now m in
    let noted : m1.scan_list ≡ t.stamp ∷ [] = open_stamps-is m ((0, t) ∷ []) [] open_ones jobs in
    let m2 : Machine = ended m1 0 in
    let none : entries m2.transactions ≡ [] = ap (λ x. entries (remove x 0)) alone.open_ones ∙ ap (λ x. entries x) (none_left t) ∙ none_in in
    let m3 : Machine = scanned_now m2 in
    let m4 : Machine = scanned_now m3 in
    let enough : 2 ≤ m3.scans = omega arith in
    let more : 2 ≤ m4.scans = omega arith in
    let one : 0 < m.settings.servers = one_server m.settings in
    let rest : List (Event × Answer) =
    (event.Scan, answer.Scanning) ∷ (event.Piece 64, answer.Done) ∷ (event.Collect 0, answer.Collected 0) ∷ (event.Scan, answer.Scanning) ∷ (event.Piece 64, answer.Done)
    ∷ (event.Collect 0, answer.Collected 4) ∷ [] in (
      sym (held_scan m ((0, t) ∷ []) [] [] alone.parts open_ones jobs alone.noted),
      (
        inl (sym all_done),
        (
          sym (held_scan m1 ((0, t) ∷ []) [] (t.stamp ∷ []) refl open_ones jobs noted ∙ held t),
          (
            asked m1 0 (Some t) here verb.Abort answer.Okay refl refl,
            subst (λ x. Runs x rest) (sym (after-client m1 0 verb.Abort answer.Okay (Some t) here)) (
              sym (scan_at_rest m2 refl none jobs),
              (
                inl (sym all_done),
                (
                  may_collect m3 0 (answer.Collected 0) one enough tt,
                  (
                    sym (scan_at_rest m3 refl none jobs),
                    (
                      inl (sym all_done),
                      (
                        may_collect m4 0 (answer.Collected 4) one more tt,
                        tt,
                      ),
                    ),
                  ),
                ),
              ),
            ),
          ),
        ),
      ),
    )

pub in_pieces : (m : Machine) → IsAtRest m → Runs m (pieces_events m.number)
unfolding Runs answers_from
in_pieces m rest =
    let open_ones : entries m.transactions ≡ [] = ap (λ x. entries x) rest.open_ones ∙ none_in in
    let jobs : entries m.jobs ≡ [] = ap (λ x. entries x) rest.jobs ∙ none_in in
    let n : ℕ = m.number in
    let m2 : Machine = after (scanning_now m) (event.Piece 60) (answer.More 4) in
    let none : get m2.transactions 0 ≡ None = ap (λ x. get x 0) rest.open_ones ∙ get-empty nat_cmp 0 in
    let t : Transaction = first_transaction m2 in
    let m3 : Machine = begun m2 0 (answer.Begun n) in
    let here : get m3.transactions 0 ≡ Some t = get-number_same m2.transactions 0 t in
    let m4 : Machine = installed m3 0 t (n + 1) in
    let last : List (Event × Answer) = (event.Piece 10, answer.Done) ∷ [] in
    let committed : List (Event × Answer) = (asks verb.Try, answer.Committed (n + 1)) ∷ last in (
      sym (scan_at_rest m rest.parts open_ones jobs),
      (
        inl (sym (piece_more 60 64 (omega arith))),
        (
          to_may m2 0 None none verb.Begin (answer.Begun n) refl,
          subst (λ x. Runs x committed) (sym (after-client m2 0 verb.Begin (answer.Begun n) None none)) (
            asked m3 0 (Some t) here verb.Try (answer.Committed (n + 1)) (live_try t refl) (refl, refl),
            subst (λ x. Runs x last) (sym (after-client m3 0 verb.Try (answer.Committed (n + 1)) (Some t) here))
                (inl (sym (piece_done 10 4 (omega arith))), tt),
          ),
        ),
      ),
    )
