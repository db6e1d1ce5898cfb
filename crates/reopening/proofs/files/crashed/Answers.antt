use Rattle.reopening.proofs.CrashLemmas.{crashed_clean, crashed_holds, crashed_reads}
use Rattle.reopening.proofs.files.crashed.Goals as goal

pub returns : goal.returns
returns g c =
    let it = c.into_store.result in
    let before = c.close-files.result in
    let quiet = c.into_store.ensures.quiet in
    record {
      log = c.crash.ensures.usable;
      db = c.crash-2.ensures.usable;
      clean = λ honest. crashed_clean c.args.conn it c.into_store.ensures.numbered c.into_store.ensures.sound quiet before _ c.close-files.ensures
          c.crash.ensures.left c.crash-2.ensures.left c.crash.ensures.clean c.crash-2.ensures.clean honest;
      holds = λ honest. crashed_holds c.args.conn it c.into_store.ensures.numbered c.into_store.ensures.sound quiet before _ c.close-files.ensures
          c.crash.ensures.left c.crash-2.ensures.left c.crash.ensures.clean c.crash-2.ensures.clean honest;
      reads = λ honest. crashed_reads c.args.conn it c.into_store.ensures.numbered c.into_store.ensures.sound quiet before _ c.close-files.ensures
          c.crash.ensures.left c.crash-2.ensures.left c.crash.ensures.clean c.crash-2.ensures.clean honest;
    }
