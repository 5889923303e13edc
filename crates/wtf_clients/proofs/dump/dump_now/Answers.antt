use Rattle.wtf_clients.proofs.Common.{Fault, Store, Key, Value, Map, metadata_at, told_in, RemembersTrue, IsDumped, IsNoFile, LacksDump, ReadsBases, dump_bases}
use Rattle.wtf_clients.proofs.Common.{◌≡◌, ◌⊎◌, IfOk, IfErr, sym, ap, ◌∙◌, subst, arith}
use Rattle.wtf_clients.proofs.dump.dump_now.Given.{Over}
use Rattle.wtf_clients.proofs.dump.dump_now.Goals as goal
use Rattle.wtf_clients.proofs.dump.dump_now.Goals.{After-dump_at-shown}

-- the map at the number that was pinned is the map now
same : (g : Over) (c : After-dump_at-shown g) → metadata_at c.pin.new.self c.number-number.result ≡ metadata_at c.args.kv.now c.args.kv.now.number
same g c =
    ap (λ (s : Store Key Value). metadata_at s c.number-number.result) c.in_default.ensures.ok ∙ ap (metadata_at c.args.kv.now) c.number-number.ensures.number

pub returns-clause-shows : goal.returns-clause-shows
returns-clause-shows g c =
    subst (λ (w : Map). IfOk c.dump_at-shown.result (IsDumped c.args.dev.now.settings.region (told_in g.S.SliceStore.kind c.args.dev.now)
    (RemembersTrue g.S.SliceStore.kind c.args.dev.now) w c.args.p.now)) (same g (goal.at.returns-clause-shows g c).After-dump_at-shown)
    c.dump_at-shown.ensures.shows

pub returns-clause-fault : goal.returns-clause-fault
returns-clause-fault g c =
    subst (λ (w : Map). IfErr c.dump_at-shown.result
    (λ (why : Fault). (why ≡ Fault.Memory) ⊎ LacksDump g.S.SliceStore.kind c.args.dev.now c.dump_at-shown.new.dev w c.args.p.now why))
    (same g (goal.at.returns-clause-fault g c).After-dump_at-shown) c.dump_at-shown.ensures.fault

pub returns-clause-read : goal.returns-clause-read
returns-clause-read g c =
    let dev = c.args.dev.now in
    let new = c.dump_at-shown.new.dev in
    subst (λ (w : Map). IfOk c.dump_at-shown.result (λ a. ReadsBases g.S.SliceStore.kind dev new (dump_bases dev.settings.region w c.args.p.now a)))
    (same g (goal.at.returns-clause-read g c).After-dump_at-shown) c.dump_at-shown.ensures.read

pub returns-clause-lists : goal.returns-clause-lists
returns-clause-lists g c = λ none. c.dump_at-shown.ensures.lists
    (subst (λ (w : Map). IsNoFile w c.args.p.now) (sym (same g (goal.at.returns-clause-lists g c).After-dump_at-shown)) none)

pub returns-clause-pins : goal.returns-clause-pins
returns-clause-pins g c = λ n.
    let first = c.in_default.ensures.once n in
    let last = c.unpin.ensures.once n in
    omega (arith, first, last)
