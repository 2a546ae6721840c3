-- `meaning::claims` meets its contract: each claim is a law. Assumes nothing.
use Rattle.meaning.proofs.HaserLaws.{haser-holds}
use Rattle.meaning.proofs.MaskLaws.{expected-holds}
use Rattle.meaning.proofs.SetLaws.{get_holds, set_holds, setter_means, setter-leaves, void-holds, set-get-holds}
use Rattle.meaning.proofs.SetLaws.{void-set-holds}
use Rattle.meaning.proofs.ZeroLaws.{zeroing_holds}
use Rattle.meaning.proofs.claims.Goals as goal

pub returns : goal.returns
returns c = (
  get_holds,
  set_holds,
  setter_means,
  setter-leaves,
  void-holds,
  set-get-holds,
  expected-holds,
  void-set-holds,
  haser-holds,
  zeroing_holds,
)
