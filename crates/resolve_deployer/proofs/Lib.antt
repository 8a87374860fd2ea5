pub mod Deployer
