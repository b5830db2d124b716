mod Labelled
mod Down
