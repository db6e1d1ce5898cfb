use Rattle.std.proofs.Common.{◌≡◌, ◌≤◌, ◌<◌, ◌*◌, ◌+◌, ◌++◌, List, ℕ, ap, ◌∙◌, arith, length, rules, sym, subst}
use Rattle.attributes.specs.Event.{EventValue}
use Rattle.site.specs.Page.{page}
use Rattle.site_lock.specs.Pass.{leaves}
use Rattle.keeper.specs.Keep.{AsksPages, max_page}
use Rattle.keeper.proofs.GatherLemmas.{HasAsked, asked_on, asks_pages, both_long, ends_paged, first_asked, first_on, page_last, page_most, page_on}
use Rattle.keeper.proofs.gathered.gathered.Goals as goal

pub returns-in-Err-clause-asked : goal.returns-in-Err-clause-asked
returns-in-Err-clause-asked g c =
    let made = c.fresh-first.ensures.made in
    asks_pages c.args.from c.args.pass.now c.fresh-first.new.pass 1 c.args.pages (first_asked c.args.from c.args.pass.now c.fresh-first.new.pass _ made (c.calls_follow.ensures _ _ _ made)) (omega arith) c.requires.some

pub returns-then-len-lt-MAX_PAGE-clause-asked : goal.returns-then-len-lt-MAX_PAGE-clause-asked
returns-then-len-lt-MAX_PAGE-clause-asked g c =
    let made = c.fresh-first.ensures.made in
    asks_pages c.args.from c.args.pass.now c.fresh-first.new.pass 1 c.args.pages (first_asked c.args.from c.args.pass.now c.fresh-first.new.pass _ made (c.calls_follow.ensures _ _ _ made)) (omega arith) c.requires.some

pub returns-then-len-lt-MAX_PAGE-clause-page : goal.returns-then-len-lt-MAX_PAGE-clause-page
returns-then-len-lt-MAX_PAGE-clause-page g c =
    let follows = c.calls_follow.ensures _ _ _ c.in-Ok.ensures.made in
    page_last c.args.from (max_page * 1) (max_page * c.args.pages) (leaves c.fresh-first.new.pass) c.in-Ok.events
    (first_on c.args.from (leaves c.args.pass.now) (leaves c.fresh-first.new.pass) c.in-Ok.events follows.0 follows.2 follows.1)
    (omega (arith, c.len.ensures, c.if-len-lt-MAX_PAGE.true)) (omega (arith, c.requires.some))

pub loop-page-init : goal.loop-page-init
loop-page-init g c =
    let made = c.in-Ok.ensures.made in
    let follows = c.calls_follow.ensures _ _ _ made in
    let is = first_on c.args.from (leaves c.args.pass.now) (leaves c.fresh-first.new.pass) c.in-Ok.events follows.0 follows.2 follows.1 in
    let most = page_most c.args.from (leaves c.fresh-first.new.pass) c.in-Ok.events is in (
      first_asked c.args.from c.args.pass.now c.fresh-first.new.pass _ made follows,
      made.same.table ∙ c.requires.own,
      c.stands.ensures.distinct,
      is,
      omega (arith, c.len.ensures, c.if-len-lt-MAX_PAGE.false, most),
      omega arith,
      c.requires.some,
      ends_paged _ _ _ _ made,
    )

pub returns-in-Err-more-clause-asked : goal.returns-in-Err-more-clause-asked
returns-in-Err-more-clause-asked g c =
    let inv = c.loop-page.invariant in let made = c.fresh-more.ensures.made in
    let next : c.in-Some.next ≡ c.args.from + max_page * c.loop-page._page = omega (arith, c.in-Some.ensures.1, c.len-in-loop-page.ensures, inv.4) in
    let asked : HasAsked c.args.from c.args.pass.now c.fresh-more.new.pass (c.loop-page._page + 1) = asked_on c.args.from c.args.pass.now c.loop-page.pass c.fresh-more.new.pass c.loop-page._page c.in-Some.next _ inv.0 next made (c.calls_follow.ensures _ _ _ made) in
    asks_pages c.args.from c.args.pass.now c.fresh-more.new.pass (c.loop-page._page + 1) c.args.pages asked (omega arith) (omega (arith, c.loop-page-test.true))

pub returns-in-Err-more-clause-added : goal.returns-in-Err-more-clause-added
returns-in-Err-more-clause-added g c =
    let inv = c.loop-page.invariant in let made = c.fresh-more.ensures.made in
    let next : c.in-Some.next ≡ c.args.from + max_page * c.loop-page._page = omega (arith, c.in-Some.ensures.1, c.len-in-loop-page.ensures, inv.4) in
    let asked : HasAsked c.args.from c.args.pass.now c.fresh-more.new.pass (c.loop-page._page + 1) = asked_on c.args.from c.args.pass.now c.loop-page.pass c.fresh-more.new.pass c.loop-page._page c.in-Some.next _ inv.0 next made (c.calls_follow.ensures _ _ _ made) in
    (asked.others, asked.added)

pub returns-in-Err-append-clause-asked : goal.returns-in-Err-append-clause-asked
returns-in-Err-append-clause-asked g c =
    let inv = c.loop-page.invariant in let made = c.fresh-more.ensures.made in
    let next : c.in-Some.next ≡ c.args.from + max_page * c.loop-page._page = omega (arith, c.in-Some.ensures.1, c.len-in-loop-page.ensures, inv.4) in
    let asked : HasAsked c.args.from c.args.pass.now c.fresh-more.new.pass (c.loop-page._page + 1) = asked_on c.args.from c.args.pass.now c.loop-page.pass c.fresh-more.new.pass c.loop-page._page c.in-Some.next _ inv.0 next made (c.calls_follow.ensures _ _ _ made) in
    asks_pages c.args.from c.args.pass.now c.fresh-more.new.pass (c.loop-page._page + 1) c.args.pages asked (omega arith) (omega (arith, c.loop-page-test.true))

pub returns-in-Err-append-clause-added : goal.returns-in-Err-append-clause-added
returns-in-Err-append-clause-added g c =
    let inv = c.loop-page.invariant in let made = c.fresh-more.ensures.made in
    let next : c.in-Some.next ≡ c.args.from + max_page * c.loop-page._page = omega (arith, c.in-Some.ensures.1, c.len-in-loop-page.ensures, inv.4) in
    let asked : HasAsked c.args.from c.args.pass.now c.fresh-more.new.pass (c.loop-page._page + 1) = asked_on c.args.from c.args.pass.now c.loop-page.pass c.fresh-more.new.pass c.loop-page._page c.in-Some.next _ inv.0 next made (c.calls_follow.ensures _ _ _ made) in
    (asked.others, asked.added)

pub returns-then-not-is_full-clause-asked : goal.returns-then-not-is_full-clause-asked
returns-then-not-is_full-clause-asked g c =
    let inv = c.loop-page.invariant in let made = c.fresh-more.ensures.made in
    let next : c.in-Some.next ≡ c.args.from + max_page * c.loop-page._page = omega (arith, c.in-Some.ensures.1, c.len-in-loop-page.ensures, inv.4) in
    let asked : HasAsked c.args.from c.args.pass.now c.fresh-more.new.pass (c.loop-page._page + 1) = asked_on c.args.from c.args.pass.now c.loop-page.pass c.fresh-more.new.pass c.loop-page._page c.in-Some.next _ inv.0 next made (c.calls_follow.ensures _ _ _ made) in
    asks_pages c.args.from c.args.pass.now c.fresh-more.new.pass (c.loop-page._page + 1) c.args.pages asked (omega arith) (omega (arith, c.loop-page-test.true))

pub returns-then-not-is_full-clause-added : goal.returns-then-not-is_full-clause-added
returns-then-not-is_full-clause-added g c =
    let inv = c.loop-page.invariant in let made = c.fresh-more.ensures.made in
    let next : c.in-Some.next ≡ c.args.from + max_page * c.loop-page._page = omega (arith, c.in-Some.ensures.1, c.len-in-loop-page.ensures, inv.4) in
    let asked : HasAsked c.args.from c.args.pass.now c.fresh-more.new.pass (c.loop-page._page + 1) = asked_on c.args.from c.args.pass.now c.loop-page.pass c.fresh-more.new.pass c.loop-page._page c.in-Some.next _ inv.0 next made (c.calls_follow.ensures _ _ _ made) in
    (asked.others, asked.added)

pub returns-then-not-is_full-clause-page : goal.returns-then-not-is_full-clause-page
returns-then-not-is_full-clause-page g c =
    let inv = c.loop-page.invariant in let follows = c.calls_follow.ensures _ _ _ c.in-Ok-more.ensures.made in
    let next : c.in-Some.next ≡ c.args.from + length c.loop-page.events = omega (arith, c.in-Some.ensures.1, c.len-in-loop-page.ensures) in
    let most = page_most c.in-Some.next _ c.in-Ok-more.more follows.1 in
    let both = both_long c.loop-page.events c.in-Ok-more.more c.append.new.events c.in-Ok-append.ensures in
    let is = c.in-Ok-append.ensures ∙ page_on c.args.from c.loop-page._page c.in-Some.next (leaves c.loop-page.pass) (leaves c.fresh-more.new.pass) c.loop-page.events c.in-Ok-more.more follows.0 inv.5 inv.3 inv.4 next follows.2 follows.1 in
    page_last c.args.from (max_page * (c.loop-page._page + 1)) (max_page * c.args.pages) (leaves c.fresh-more.new.pass) c.append.new.events is
    (omega (arith, both, inv.4, most, c.len-is_full.ensures, c.if-not-is_full.true))
    (omega (arith, c.loop-page-test.true))

pub loop-page-preserved : goal.loop-page-preserved
loop-page-preserved g c =
    let inv = c.loop-page.invariant in let made = c.in-Ok-more.ensures.made in let follows = c.calls_follow.ensures _ _ _ made in
    let at : c.in-Some.next ≡ c.args.from + max_page * c.loop-page._page = omega (arith, c.in-Some.ensures.1, c.len-in-loop-page.ensures, inv.4) in
    let next : c.in-Some.next ≡ c.args.from + length c.loop-page.events = omega (arith, c.in-Some.ensures.1, c.len-in-loop-page.ensures) in
    let both = both_long c.loop-page.events c.in-Ok-more.more c.append.new.events c.in-Ok-append.ensures in (
      asked_on c.args.from c.args.pass.now c.loop-page.pass c.fresh-more.new.pass c.loop-page._page c.in-Some.next _ inv.0 at made follows,
      made.same.table ∙ inv.1,
      c.stands-in-loop-page.ensures.distinct,
      c.in-Ok-append.ensures ∙ page_on c.args.from c.loop-page._page c.in-Some.next (leaves c.loop-page.pass) (leaves c.fresh-more.new.pass) c.loop-page.events c.in-Ok-more.more follows.0 inv.5 inv.3 inv.4 next follows.2 follows.1,
      omega (arith, both, inv.4, c.len-is_full.ensures, c.if-not-is_full.false),
      omega (arith, inv.5),
      omega (arith, c.loop-page-test.true),
      ends_paged _ _ _ _ made,
    )

pub returns-then-len-lt-MAX_PAGE-clause-replied : goal.returns-then-len-lt-MAX_PAGE-clause-replied
returns-then-len-lt-MAX_PAGE-clause-replied g c = ends_paged _ _ _ _ c.in-Ok.ensures.made

pub returns-then-not-is_full-clause-replied : goal.returns-then-not-is_full-clause-replied
returns-then-not-is_full-clause-replied g c = ends_paged _ _ _ _ c.in-Ok-more.ensures.made
