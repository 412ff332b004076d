use Rattle.history.proofs.Pushes.{whole-push}
use Rattle.history.proofs.call.Call.make.Goals as goal

pub returns : goal.returns
returns g c =
    record {
      step = c.step.ensures.step;
      places = c.step.ensures.places;
      history = λ account requests replies start h. whole-push account start _ _ _ _ h c.step.ensures.step c.step.ensures.places;
    }
