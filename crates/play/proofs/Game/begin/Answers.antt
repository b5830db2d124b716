-- What is written is shown, and there is room again.
use Rattle.play.proofs.Shown.{ready}
use Rattle.play.proofs.Game.begin.Goals as goal

pub returns : goal.returns
returns g c = ready c.args.self.now.out c.opening.new.out c.show.new.out _ c.requires c.opening.ensures.bytes c.show.ensures.none
