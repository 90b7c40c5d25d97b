use Rattle.ff_points.proofs.all.points.Goals as goal

pub returns-clause-form : goal.returns-clause-form
returns-clause-form g c i d l = (c.in_ok-items.ensures.list.each i d l).form

pub returns-clause-sound : goal.returns-clause-sound
returns-clause-sound g c closed i d l = (c.in_ok-items.ensures.list.each i d l).sound closed

pub returns-clause-complete : goal.returns-clause-complete
returns-clause-complete g c = c.in_ok-items.ensures.all

pub returns-clause-rising : goal.returns-clause-rising
returns-clause-rising g c = c.in_ok-items.ensures.list.rising
