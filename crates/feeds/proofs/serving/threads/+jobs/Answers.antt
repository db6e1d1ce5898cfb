use denote.Exit.{no}
use denote.Param.Send.{arg_send, param_send}
use Rattle.std.proofs.Common.{◌≤◌, [], ◌∷◌, ◌++◌, arith, rules, subst, sym}
use Rattle.std.specs.Vec.{vec_capacity}
use Rattle.feeds.specs.steps.Serve.{Each, EndsJob}
use Rattle.feeds.proofs.CrossLemmas.{finished_is_send, worker_is_send}
use Rattle.feeds.proofs.ServeLemmas.{each_length, one_more, some_of}
use Rattle.feeds.proofs.serving.threads.+jobs.Goals as goal

pub scope-spawn_with-child-requires-send-F : goal.scope-spawn_with-child-requires-send-F
scope-spawn_with-child-requires-send-F g t c κs within =
    worker_is_send _ _ _ _ _ _ _ _ c.requires.0 c.requires.1 c.threads_share_a_site.ensures.pass c.threads_share_a_site.ensures.shared

pub scope-spawn_with-child-requires-send-T : goal.scope-spawn_with-child-requires-send-T
scope-spawn_with-child-requires-send-T g t c κs within = param_send 3 _ (arg_send _ no _ (finished_is_send c.threads_share_a_site.ensures.pass))

pub scope-put-requires : goal.scope-put-requires
scope-put-requires g t c =
    let all = c.in-Some.all in
    let e = some_of (λ v. Each (EndsJob (g.G.Gate.lets c.captures.gate.now) (g.G.Gate.shuts c.captures.gate.now) (g.G.Gate.heard c.captures.gate.now)) c.captures.jobs.items v.items × (vec_capacity c.captures.room ≤ vec_capacity v)) c.run_jobs-aside.result.1 all c.in-Some.is c.run_jobs-aside.ensures.each in
    omega (arith, each_length _ _ _ e.0, all.ok.0, e.1, c.requires.7)

pub scope-returns-in-Some : goal.scope-returns-in-Some
scope-returns-in-Some g t c =
    let all = c.in-Some.all in
    let e = some_of (λ v. Each (EndsJob (g.G.Gate.lets c.captures.gate.now) (g.G.Gate.shuts c.captures.gate.now) (g.G.Gate.heard c.captures.gate.now)) c.captures.jobs.items v.items × (vec_capacity c.captures.room ≤ vec_capacity v)) c.run_jobs-aside.result.1 all c.in-Some.is c.run_jobs-aside.ensures.each in
    let last : EndsJob (g.G.Gate.lets c.captures.gate.now) (g.G.Gate.shuts c.captures.gate.now) (g.G.Gate.heard c.captures.gate.now) c.captures.job c.join-last.result = search rules in (
      c.run_jobs-aside.ensures.aside,
      (subst (λ l. Each (EndsJob (g.G.Gate.lets c.captures.gate.now) (g.G.Gate.shuts c.captures.gate.now) (g.G.Gate.heard c.captures.gate.now)) (c.captures.jobs.items ++ c.captures.job ∷ []) l) (sym c.put.ensures.items) (one_more _ _ _ _ _ e.0 last), omega (arith, e.1, c.put.ensures.room)),
    )
